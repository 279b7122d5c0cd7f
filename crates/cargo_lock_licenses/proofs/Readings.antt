-- What is read of a text, by its evaluation.
use Rattle.std.proofs.Common.{◌≡◌, ◌↔◌, ◌∙◌, [], ℕ, Bool, true, false, true≢false, IsTrue, List, None, Option, Some, ap, is_some, refl, sym, unwrap_or}
use Rattle.cargo_lock_licenses.specs.Allowed.{IsAllowed}
use Rattle.cargo_lock_licenses.specs.Evaluation.{evaluated}
use Rattle.cargo_lock_licenses.specs.Grammar.{ReadsAs, Tree}
use Rattle.cargo_lock_licenses.specs.Tokens.{TokenData}
use Rattle.cargo_lock_licenses.proofs.Complete.{evaluated-value, value}
use Rattle.cargo_lock_licenses.proofs.Forms.{allowed-if, only-if}
use Rattle.cargo_lock_licenses.proofs.Sound.{evaluated-means}

pub allowed-is : (allowed : List (List ℕ)) (ts : List TokenData) (v : Option Bool) (is : Bool) → v ≡ evaluated allowed ts → is ≡ unwrap_or v false
    → (e : Tree) → ReadsAs ts e → IsTrue is ↔ IsAllowed allowed e
allowed-is allowed ts v is found so e reads = (λ t. allowed-if allowed e (sym same ∙ t), λ h. same ∙ only-if allowed e h)
  where
    same : is ≡ value allowed e
    same = so ∙ ap (λ o. unwrap_or o false) (found ∙ evaluated-value allowed ts e reads)

pub tree-of : (ts : List TokenData) → is_some (evaluated [] ts) ≡ true → (e : Tree) × ReadsAs ts e
tree-of ts is = by (evaluated [] ts) refl is
  where
    by : (o : Option Bool) → evaluated [] ts ≡ o → is_some o ≡ true → (e : Tree) × ReadsAs ts e
    by None e h = absurd (true≢false (sym h))
    by (Some v) e h = let (tree, reads, same) = evaluated-means [] ts v e in (tree, reads)

pub no-tree : (ts : List TokenData) → is_some (evaluated [] ts) ≡ false → (e : Tree) → ¬ ReadsAs ts e
no-tree ts is e reads = true≢false (sym (ap is_some (evaluated-value [] ts e reads)) ∙ is)
