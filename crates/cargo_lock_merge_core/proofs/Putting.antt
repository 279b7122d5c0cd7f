-- Commits that are put into a map.
use Rattle.std.proofs.Common.{◌≡◌, inl, inr, ℕ, Bool, true, false, cond, List, [], ◌∷◌, ◌++◌, take, length, get_or, ◌+◌, ◌<◌, Option, Some, None, IfSome, refl, sym, ap, subst, ◌∙◌, true≢false}
use Rattle.std.specs.Borrow.{Bor}
use Rattle.std.specs.BTreeMap.{is_at}
use Rattle.std.proofs.lemmas.Bool.{cases_Bool}
use Rattle.std.proofs.lemmas.List.{take_more}
use Rattle.std.proofs.lemmas.Option.{same_Some}
use Rattle.cargo_lock_parts.specs.Identity.{PackageData}
use Rattle.cargo_lock_parts.specs.Source.{Source, is_git}
use Rattle.cargo_lock_parts.specs.SourceKey.{Key, key_of, source_cmp}
use Rattle.cargo_lock_parts.specs.SourceLaws.{is_same_source-Decides}
use Rattle.cargo_lock_merge_core.specs.declared.placed.Placed.{Placed}
use Rattle.cargo_lock_edges.specs.Nearest.{key_without_commit}
use Rattle.cargo_lock_merge_core.specs.Commits.{commit_in, git_in}
use Rattle.cargo_lock_merge_core.specs.CommitMaps.{IsCommitPut, IsPutSource, commit_if}
use Rattle.cargo_lock_merge_core.specs.Numbered.{all_data}
use Rattle.cargo_lock_merge_core.specs.Placed.{contents_of}
use Rattle.cargo_lock_merge_core.proofs.Merging.{bare-key}

pub git-key : (o : Option Source) (s : Source) → o ≡ Some s → is_git s.kind ≡ true → git_in o ≡ Some (key_without_commit s)
git-key o s e g = ap git_in e ∙ rw g refl

module _ (p : PackageData) (s k q : Source) (old new : Option (Bor Source)) (source : Bor Source) (is : p.source ≡ Some s) (here : source.now ≡ s) (git : is_git s.kind ≡ true)
    (bare : k ≡ record s { precise = None }) where
  put-here : is_at (source_cmp k) q ≡ true → new ≡ Some source → IsCommitPut p (key_of q) (commit_if old) (commit_if new)
  put-here at e = inl (
    git-key p.source s is git ∙ ap Some (sym (bare-key s k bare) ∙ (is_same_source-Decides k q).0 at),
    ap commit_if e ∙ ap Some (ap (λ (z : Source). z.precise) here ∙ sym (ap commit_in is)),
  )

  put-there : is_at (source_cmp k) q ≡ false → new ≡ old → IsCommitPut p (key_of q) (commit_if old) (commit_if new)
  put-there at e = inr (
    λ h. true≢false (sym ((is_same_source-Decides k q).1 (bare-key s k bare ∙ same_Some (key_without_commit s) (key_of q) (sym (git-key p.source s is git) ∙ h))) ∙ at),
    ap commit_if e,
  )

  -- the commit of a package of a git source
  pub put-git : new ≡ cond (is_at (source_cmp k) q) (Some source) old → IsCommitPut p (key_of q) (commit_if old) (commit_if new)
  put-git e = elim (cases_Bool (is_at (source_cmp k) q)) [
    | inl at ↦ put-here at (e ∙ ap (λ (b : Bool). cond b (Some source) old) at)
    | inr at ↦ put-there at (e ∙ ap (λ (b : Bool). cond b (Some source) old) at)
  ]

  -- the source of a package of a git source
  pub put-source : new ≡ cond (is_at (source_cmp k) q) (Some source) old → IsPutSource p q old new
  put-source e = elim (cases_Bool (is_at (source_cmp k) q)) [
    | inl at ↦ inr (subst (λ (o : Option (Bor Source)). IfSome o (λ (a : Bor Source). (p.source ≡ Some a.now) × (key_without_commit a.now ≡ key_of q)))
        (sym (e ∙ ap (λ (b : Bool). cond b (Some source) old) at))
        (is ∙ ap Some (sym here), ap key_without_commit here ∙ sym (bare-key s k bare) ∙ (is_same_source-Decides k q).0 at))
    | inr at ↦ inl (e ∙ ap (λ (b : Bool). cond b (Some source) old) at)
  ]

no-git : (o : Option Source) (s : Source) → o ≡ Some s → is_git s.kind ≡ false → git_in o ≡ None
no-git o s e g = ap git_in e ∙ rw g refl

-- a package of no git source
pub put-other : (p : PackageData) (g : Key) (old new : Option (Bor Source)) → git_in p.source ≡ None → new ≡ old → IsCommitPut p g (commit_if old) (commit_if new)
put-other p g old new none e = inr (λ h. absurd (let n = sym none ∙ h in cc), ap commit_if e)

pub put-not-git : (p : PackageData) (s : Source) (g : Key) (old new : Option (Bor Source)) → p.source ≡ Some s → is_git s.kind ≡ false → new ≡ old → IsCommitPut p g (commit_if old) (commit_if new)
put-not-git p s g old new is h e = put-other p g old new (no-git p.source s is h) e

pub put-none : (p : PackageData) (g : Key) (old new : Option (Bor Source)) → p.source ≡ None → new ≡ old → IsCommitPut p g (commit_if old) (commit_if new)
put-none p g old new is e = put-other p g old new (ap git_in is) e

-- ---- the packages so far

contents-push : (xs : List Placed) (x : Placed) → contents_of (all_data (xs ++ x ∷ [])) ≡ contents_of (all_data xs) ++ x.«package».now ∷ []
contents-push [] x = refl
contents-push (y ∷ ys) x = ap (λ (zs : List PackageData). y.«package».now ∷ zs) (contents-push ys x)

pub contents-more : (xs : List Placed) (i : ℕ) (x : Placed) → i < length xs → get_or xs i x ≡ x
    → contents_of (all_data (take (i + 1) xs)) ≡ contents_of (all_data (take i xs)) ++ x.«package».now ∷ []
contents-more xs i x low is =
    ap (λ (zs : List Placed). contents_of (all_data zs)) (take_more xs i x low ∙ ap (λ (y : Placed). take i xs ++ y ∷ []) is)
    ∙ contents-push (take i xs) x
