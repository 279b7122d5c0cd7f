-- The side that has a value of a merged package.
use Rattle.std.proofs.Common.{◌≡◌, inl, inr, ℕ, Bool, true, false, cond, Option, Some, None, option_map, refl, sym, ap, subst, ◌∙◌}
use Rattle.cargo_lock_parts.specs.Identity.{Identity, identity_of}
use Rattle.cargo_lock_parts.specs.IdentityLaws.{is_same_identity-Decides}
use Rattle.cargo_lock_parts.specs.IdentityOrder.{is_same_identity}
use Rattle.std.proofs.lemmas.Option.{same_Some}
use Rattle.cargo_lock_merge_core.specs.declared.rule3.Equal.{Equal}
use Rattle.cargo_lock_merge_core.specs.declared.rule3.Side.{Side}
use Rattle.cargo_lock_merge_core.specs.declared.rule3.Side.TheVariants.{Ours, Theirs}
use Rattle.cargo_lock_parts.specs.Checksum.{digest_of}
use Rattle.cargo_lock_parts.specs.declared.package.checksum.Checksum.{Checksum}
use Rattle.cargo_lock_merge_core.specs.Agreed.{AreEqual, IsAgreedSide, IsOnlyOf}
use Rattle.cargo_lock_merge_core.specs.Choices.{IsOfSide, checksum_if, if_same}
use Rattle.cargo_lock_merge_core.specs.Numbered.{IsChecksumChoice, IsValueChoice}
use Rattle.cargo_lock_merge_core.specs.Placed.{PlacedData}
use Rattle.cargo_lock_merge_core.specs.Rule3.{IsDisputed, IsMergedValue}
use Rattle.cargo_lock_merge_core.proofs.Agreeing.{agreed-by, conflict-by}
use Rattle.cargo_lock_merge_core.proofs.OnlyValue.{only-cast, only-same, only-then, two-apart, two-cast, two-first, two-then}

if-cases : (b : Bool) (y z : PlacedData ℕ) → cond b (Some z) None ≡ Some y → z ≡ y
if-cases true y z e = same_Some z y e
if-cases false y z e = absurd cc

-- what has the identity is the package
pub if-same-is : (x : PlacedData ℕ) (o : Option (PlacedData ℕ)) (y : PlacedData ℕ) → if_same x o ≡ Some y → o ≡ Some y
if-same-is x None y e = absurd cc
if-same-is x (Some z) y e = ap Some (if-cases (is_same_identity (identity_of z.content) (identity_of x.content)) y z e)

same-itself : (i : Identity) → is_same_identity i i ≡ true
same-itself i = (is_same_identity-Decides i i).1 refl

-- x has its own identity
pub if-same-itself : (x : PlacedData ℕ) → if_same x (Some x) ≡ Some x
if-same-itself x = ap (λ (b : Bool). cond b (Some x) None) (same-itself (identity_of x.content))

module _ {X : Type 0} (f : PlacedData ℕ → X) (old : X) (o t : Option (PlacedData ℕ)) (x : PlacedData ℕ) where
  to-value : (o' t' : Option (PlacedData ℕ)) (v : X) → if_same x o ≡ o' → if_same x t ≡ t' → IsMergedValue old (option_map f o') (option_map f t') v
      → IsMergedValue old (option_map f (if_same x o)) (option_map f (if_same x t)) v
  to-value o' t' v eo et h =
      subst (λ (w : Option (PlacedData ℕ)). IsMergedValue old (option_map f w) (option_map f (if_same x t)) v) (sym eo)
      (subst (λ (w : Option (PlacedData ℕ)). IsMergedValue old (option_map f o') (option_map f w) v) (sym et) h)

  to-disputed : (o' t' : Option (PlacedData ℕ)) → if_same x o ≡ o' → if_same x t ≡ t' → IsDisputed old (option_map f o') (option_map f t')
      → IsDisputed old (option_map f (if_same x o)) (option_map f (if_same x t))
  to-disputed o' t' eo et h =
      subst (λ (w : Option (PlacedData ℕ)). IsDisputed old (option_map f w) (option_map f (if_same x t))) (sym eo)
      (subst (λ (w : Option (PlacedData ℕ)). IsDisputed old (option_map f o') (option_map f w)) (sym et) h)

  pub value-ours : (y : PlacedData ℕ) → if_same x o ≡ Some y → if_same x t ≡ None → IsValueChoice f old o t x (Some Ours)
  value-ours y eo et = (y, if-same-is x o y eo, to-value (Some y) None (f y) eo et refl)

  pub value-theirs : (y : PlacedData ℕ) → if_same x o ≡ None → if_same x t ≡ Some y → IsValueChoice f old o t x (Some Theirs)
  value-theirs y eo et = (y, if-same-is x t y et, to-value None (Some y) (f y) eo et refl)

  pub value-both : (y z : PlacedData ℕ) (e : Equal) (r : Option Side) → if_same x o ≡ Some y → if_same x t ≡ Some z → AreEqual old (f y) (f z) e → IsAgreedSide e r
      → IsValueChoice f old o t x r
  value-both y z e (Some Ours) eo et a h = (y, if-same-is x o y eo, to-value (Some y) (Some z) (f y) eo et (agreed-by old (f y) (f z) e Ours a h))
  value-both y z e (Some Theirs) eo et a h = (z, if-same-is x t z et, to-value (Some y) (Some z) (f z) eo et (agreed-by old (f y) (f z) e Theirs a h))
  value-both y z e None eo et a h = to-disputed (Some y) (Some z) eo et (conflict-by old (f y) (f z) e a h)

  -- one of the sides has the identity of the chosen package
  pub value-none : IsOfSide o t x → if_same x o ≡ None → if_same x t ≡ None → ⊥
  value-none (inl e) eo et = let n = sym (ap (if_same x) e ∙ if-same-itself x) ∙ eo in absurd cc
  value-none (inr e) eo et = let n = sym (ap (if_same x) e ∙ if-same-itself x) ∙ et in absurd cc

-- ---- checksums

pub only-of-both : (a b : Option Checksum) (x y : Checksum) → a ≡ Some x → b ≡ Some y → digest_of x ≡ digest_of y → IsOnlyOf (option_map digest_of a) (option_map digest_of b) (Some (Some (digest_of x)))
only-of-both a b x y ea eb same =
    only-cast _ _ _ _ _ _ (Some (digest_of x)) refl (sym (ap (option_map digest_of) ea)) (ap Some same ∙ sym (ap (option_map digest_of) eb)) (only-same (digest_of x))

pub two-of-both : (a b : Option Checksum) (x y : Checksum) → a ≡ Some x → b ≡ Some y → ¬ (digest_of x ≡ digest_of y) → IsOnlyOf (option_map digest_of a) (option_map digest_of b) None
two-of-both a b x y ea eb apart =
    two-cast _ _ _ _ _ _ refl (sym (ap (option_map digest_of) ea)) (sym (ap (option_map digest_of) eb)) (two-apart (digest_of x) (digest_of y) apart)

module _ (b o t : Option (PlacedData ℕ)) (x : PlacedData ℕ) where
  pub checksum-disputed : (p q : Option Checksum) → option_map digest_of p ≡ checksum_if (if_same x b) → option_map digest_of q ≡ checksum_if (if_same x o)
      → IsOnlyOf (option_map digest_of p) (option_map digest_of q) None → IsChecksumChoice b o t x None
  checksum-disputed p q ep eq two = two-first _ _ _ (two-cast _ _ _ _ _ _ refl ep eq two)

  pub checksum-chosen : (p q r v : Option Checksum) (w : Option (Option Checksum)) → option_map digest_of p ≡ checksum_if (if_same x b) → option_map digest_of q ≡ checksum_if (if_same x o)
      → option_map digest_of r ≡ checksum_if (if_same x t) → IsOnlyOf (option_map digest_of p) (option_map digest_of q) (Some (option_map digest_of v))
      → IsOnlyOf (option_map digest_of v) (option_map digest_of r) (option_map (option_map digest_of) w) → IsChecksumChoice b o t x (option_map (option_map digest_of) w)
  checksum-chosen p q r v None ep eq er first two =
      two-then _ _ (option_map digest_of v) _ (only-cast _ _ _ _ _ _ (option_map digest_of v) refl ep eq first) (two-cast _ _ _ _ _ _ refl refl er two)
  checksum-chosen p q r v (Some w) ep eq er first only =
      only-then _ _ (option_map digest_of v) _ (option_map digest_of w) (only-cast _ _ _ _ _ _ (option_map digest_of v) refl ep eq first) (only-cast _ _ _ _ _ _ (option_map digest_of w) refl refl er only)
