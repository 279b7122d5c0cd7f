-- The number that is found for a package is that of its own place.
use Rattle.std.proofs.Common.{◌≡◌, ◌∙◌, ◌+◌, ◌≤◌, ℕ, zero, suc, Bool, true, false, cond, if◌then◌else◌, List, [], ◌∷◌, None, Option, Some, ap, arith, option_map, refl, slice_get, sym, zero-add}
use Rattle.std.specs.List.{count_by}
use Rattle.std.specs.Option.{option_and_then}
use Rattle.std.proofs.lemmas.Bool.{eqb-true}
use Rattle.std.proofs.lemmas.List.Sums.{sum_by-cons}
use Rattle.std.proofs.lemmas.Option.{same_Some, slice_get-map}
use Rattle.cargo_lock_index.specs.Near.{first_from, first_place, is_only}
use Rattle.cargo_lock_parts.specs.Identity.{PackageData}
use Rattle.cargo_lock_parts.specs.PartialIdentity.{PartialIdentity, is_same_partial_identity, is_same_partial_identity-Decides}
use Rattle.cargo_lock_location.specs.Lines.{LinesAreOwn, line_number_at, only_place, package_key_of, package_keys_of}

module _ (p : PartialIdentity → Bool) where
  counted : (keys : List PartialIdentity) (k : ℕ) (x : PartialIdentity) → slice_get keys k ≡ Some x → p x ≡ true → 1 ≤ count_by p keys
  counted [] k x at passes = cc at
  counted (y ∷ ys) zero x at passes =
      let here : ◌≡◌ {A = ℕ} (cond (p y) 1 0) 1 = ap (λ (b : Bool). cond b 1 0) (ap p (same_Some y x at) ∙ passes) in
      let sums = sum_by-cons (λ (x : PartialIdentity). cond (p x) 1 0) y ys in
      omega (arith, here, sums)
  counted (y ∷ ys) (suc k) x at passes =
      let rest = counted ys k x at passes in
      let sums = sum_by-cons (λ (x : PartialIdentity). cond (p x) 1 0) y ys in
      omega (arith, rest, sums)

  first-only : (n : ℕ) (keys : List PartialIdentity) (k : ℕ) (x : PartialIdentity) → slice_get keys k ≡ Some x → p x ≡ true
      → count_by p keys ≡ 1 → first_from p n keys ≡ Some (n + k)
  first-only n [] k x at passes one = cc at
  first-only n (y ∷ ys) zero x at passes one =
      ap (λ (b : Bool). if b then Some n else first_from p (n + 1) ys) (ap p (same_Some y x at) ∙ passes) ∙ ap Some (omega arith)
  first-only n (y ∷ ys) (suc k) x at passes one = by (p y) refl (first-only (n + 1) ys k x at passes)
    where
      by : (b : Bool) → p y ≡ b → (count_by p ys ≡ 1 → first_from p (n + 1) ys ≡ Some (n + 1 + k)) → first_from p n (y ∷ ys) ≡ Some (n + suc k)
      by true here below =
          let more = counted ys k x at passes in
          let this : ◌≡◌ {A = ℕ} (cond (p y) 1 0) 1 = ap (λ (b : Bool). cond b 1 0) here in
          let sums = sum_by-cons (λ (x : PartialIdentity). cond (p x) 1 0) y ys in
          absurd (omega (arith, more, this, one, sums))
      by false other below =
          let this : ◌≡◌ {A = ℕ} (cond (p y) 1 0) 0 = ap (λ (b : Bool). cond b 1 0) other in
          let sums = sum_by-cons (λ (x : PartialIdentity). cond (p x) 1 0) y ys in
          let rest : count_by p ys ≡ 1 = omega (arith, this, one, sums) in
          ap (λ (b : Bool). if b then Some n else first_from p (n + 1) ys) other
          ∙ below rest ∙ ap Some (omega arith)

own-place : (packages : List PackageData) (k : ℕ) (p : PackageData) → slice_get packages k ≡ Some p → (b : Bool)
    → is_only (package_key_of p) (package_keys_of packages) ≡ b → only_place packages p ≡ (if b then Some k else None)
own-place packages k p at true only =
    let key = package_key_of p in
    let there : slice_get (package_keys_of packages) k ≡ Some key = slice_get-map package_key_of packages k ∙ ap (option_map package_key_of) at in
    let same : is_same_partial_identity key key ≡ true = (is_same_partial_identity-Decides key key).1 refl in
    let one = eqb-true (count_by (is_same_partial_identity key) (package_keys_of packages)) 1 only in
    ap (λ (b : Bool). if b then first_place key (package_keys_of packages) else None) only
    ∙ first-only (is_same_partial_identity key) 0 (package_keys_of packages) k key there same one ∙ ap Some (zero-add k)
own-place packages k p at false several =
    ap (λ (b : Bool). if b then first_place (package_key_of p) (package_keys_of packages) else None) several

pub lines_are_own : LinesAreOwn
lines_are_own d k p n at is = by (is_only (package_key_of p) (package_keys_of d.packages)) refl
  where
    by : (b : Bool) → is_only (package_key_of p) (package_keys_of d.packages) ≡ b → line_number_at d.lines k ≡ Some n
    by true only = sym (ap (option_and_then (line_number_at d.lines)) (own-place d.packages k p at true only)) ∙ is
    by false several = bad (sym (ap (option_and_then (line_number_at d.lines)) (own-place d.packages k p at false several)) ∙ is)
      where
        bad : ◌≡◌ {A = Option ℕ} None (Some n) → line_number_at d.lines k ≡ Some n
        bad e = cc e
