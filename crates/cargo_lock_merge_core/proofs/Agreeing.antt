-- What is agreed on, and the side that has it.
use Rattle.std.proofs.Common.{◌≡◌, ◌⊎◌, inl, inr, Bool, false, Option, Some, None, refl, sym, ap, subst, ◌∙◌, true≢false}
use Rattle.std.specs.Bool.{Decides}
use Rattle.std.proofs.lemmas.Option.{same_Some}
use Rattle.cargo_lock_parts.specs.Identity.{identity_of}
use Rattle.cargo_lock_parts.specs.IdentityLaws.{is_same_identity-Decides, version_total}
use Rattle.cargo_lock_parts.specs.IdentityOrder.{is_same_identity, version_cmp}
use Rattle.semver.specs.Parse.{Parts}
use Rattle.std.specs.Ordering.{ordering_reverse}
use Rattle.std.specs.declared.cmp.Ordering.TheVariants as ordering
use Rattle.std.specs.declared.cmp.Ordering.TheVariants.{Less, Greater}
use Rattle.cargo_lock_merge_core.specs.Choices.{HasLowerVersion}
use Rattle.cargo_lock_merge_core.specs.declared.rule3.Equal.{Equal}
use Rattle.cargo_lock_merge_core.specs.declared.rule3.Side.{Side}
use Rattle.cargo_lock_merge_core.specs.declared.rule3.Side.TheVariants.{Ours, Theirs}
use Rattle.cargo_lock_merge_core.specs.Agreed.{AreEqual, IsAgreedSide}
use Rattle.cargo_lock_merge_core.specs.Numbered.{side_of}
use Rattle.cargo_lock_merge_core.specs.Placed.{PlacedData, key, key_if}
use Rattle.cargo_lock_merge_core.specs.Rule3.{IsAgreed, IsInConflict}

-- the value of the side is agreed on
pub agreed-by : {X : Type 0} (b o t : X) (e : Equal) (side : Side) → AreEqual b o t e → IsAgreedSide e (Some side) → IsAgreed b o t (side_of o t side)
agreed-by b o t e Ours a (inl h) = inl (a.sides.0 h, refl)
agreed-by b o t e Ours a (inr h) = inr (inr (a.theirs.0 h, refl))
agreed-by b o t e Theirs a h = inr (inl (a.ours.0 h, refl))

-- no side's is
pub conflict-by : {X : Type 0} (b o t : X) (e : Equal) → AreEqual b o t e → IsAgreedSide e None → IsInConflict b o t
conflict-by b o t e a h = record {
  apart = λ k. h.0 (a.sides.1 k);
  ours = λ k. h.1 (a.ours.1 k);
  theirs = λ k. h.2 (a.theirs.1 k);
}

pub agreed-apart : {X : Type 0} (b o t x : X) → IsAgreed b o t x → ¬ IsInConflict b o t
agreed-apart b o t x (inl h) c = c.apart h.0
agreed-apart b o t x (inr (inl h)) c = c.ours h.0
agreed-apart b o t x (inr (inr h)) c = c.theirs h.0

pub agreed-once : {X : Type 0} (b o t x y : X) → IsAgreed b o t x → IsAgreed b o t y → x ≡ y
agreed-once b o t x y (inl h) (inl k) = h.1 ∙ sym k.1
agreed-once b o t x y (inl h) (inr (inl k)) = h.1 ∙ h.0 ∙ sym k.1
agreed-once b o t x y (inl h) (inr (inr k)) = h.1 ∙ sym k.1
agreed-once b o t x y (inr (inl h)) (inl k) = h.1 ∙ sym k.0 ∙ sym k.1
agreed-once b o t x y (inr (inl h)) (inr (inl k)) = h.1 ∙ sym k.1
agreed-once b o t x y (inr (inl h)) (inr (inr k)) = h.1 ∙ k.0 ∙ sym h.0 ∙ sym k.1
agreed-once b o t x y (inr (inr h)) (inl k) = h.1 ∙ sym k.1
agreed-once b o t x y (inr (inr h)) (inr (inl k)) = h.1 ∙ k.0 ∙ sym h.0 ∙ sym k.1
agreed-once b o t x y (inr (inr h)) (inr (inr k)) = h.1 ∙ sym k.1

-- ---- tests

pub decides-some : {X : Type 0} (b : Bool) (x y : X) → Decides b (x ≡ y) → Decides b (Some x ≡ Some y)
decides-some b x y h = (λ e. ap Some (h.0 e), λ e. h.1 (same_Some x y e))

-- no value is none
pub decides-none : {X : Type 0} (x : X) (o : Option X) → o ≡ None → Decides false (Some x ≡ o)
decides-none x o n = (λ e. absurd (true≢false (sym e)), λ e. absurd (let k : Some x ≡ None = e ∙ n in cc))

-- the test of identities decides whether packages have one key
pub same-Decides : {P : Type 0} (x y : PlacedData P) (b : Bool) → b ≡ is_same_identity (identity_of x.content) (identity_of y.content) → Decides b (key x ≡ key y)
same-Decides x y b e =
    let d = is_same_identity-Decides (identity_of x.content) (identity_of y.content) in
    (λ h. d.0 (sym e ∙ h), λ h. e ∙ d.1 h)

-- the same against a package that may be absent
pub same-as-some : {P : Type 0} (x y : PlacedData P) (o : Option (PlacedData P)) (b : Bool) → o ≡ Some y → b ≡ is_same_identity (identity_of x.content) (identity_of y.content)
    → Decides b (Some (key x) ≡ key_if o)
same-as-some {P = P} x y o b is e =
    subst (λ (z : Option (PlacedData P)). Decides b (Some (key x) ≡ key_if z)) (sym is) (decides-some b (key x) (key y) (same-Decides x y b e))

-- ---- versions

below-back : (v w : Parts) → version_cmp v w ≡ Greater → version_cmp w v ≡ Less
below-back v w e = version_total.antisymm w v ∙ ap ordering_reverse e

-- the version of x is above that of y where y compares as greater
pub greater-below : {P : Type 0} (x y : PlacedData P) → version_cmp x.content.version y.content.version ≡ Greater → HasLowerVersion y x
greater-below x y e = below-back x.content.version y.content.version e

-- where versions tie, none is above the other
pub tied-not-below : {P : Type 0} (x y : PlacedData P) → version_cmp x.content.version y.content.version ≡ ordering.Equal → ¬ (HasLowerVersion y x ⊎ HasLowerVersion x y)
tied-not-below x y e (inl h) = absurd (let n = version_total.antisymm y.content.version x.content.version ∙ ap ordering_reverse e in cc (n, h))
tied-not-below x y e (inr h) = absurd cc
