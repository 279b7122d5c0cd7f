-- What is depended on at a place after a merge.
use Rattle.std.proofs.Common.{◌≡◌, ◌⊎◌, inl, inr, ◌↔◌, ℕ, Bool, true, false, Option, Some, refl, sym, ◌∙◌, true≢false}
use Rattle.std.specs.Bool.{Decides}
use Rattle.std.specs.List.{Contains}
use Rattle.cargo_lock_parts.specs.Identity.{identity_of}
use Rattle.cargo_lock_parts.specs.IdentityOrder.{is_same_identity}
use Rattle.cargo_lock_merge_core.specs.Choices.{Counts, DependsOn, IsDependencyOf, IsSourceless}
use Rattle.cargo_lock_merge_core.specs.Placed.{PlacedData, key, key_if}
use Rattle.cargo_lock_merge_core.specs.Rule3.{IsKept}
use Rattle.cargo_lock_merge_core.proofs.Agreeing.{same-Decides}
use Rattle.cargo_lock_merge_core.proofs.Kept.{kept-alike}

pub iff-chain : {P Q R : Type 0} → P ↔ Q → Q ↔ R → P ↔ R
iff-chain f g = (λ p. g.0 (f.0 p), λ r. f.1 (g.1 r))

pub either-alike : {P Q R S : Type 0} → P ↔ R → Q ↔ S → (P ⊎ Q) ↔ (R ⊎ S)
either-alike f g = (
  λ h. elim h [ inl p ↦ inl (f.0 p) | inr q ↦ inr (g.0 q) ],
  λ h. elim h [ inl r ↦ inl (f.1 r) | inr s ↦ inr (g.1 s) ],
)

-- another base that has the same
pub kept-base : {b b' o t : Type 0} → b ↔ b' → IsKept b o t ↔ IsKept b' o t
kept-base e = (λ k. kept-alike e (λ x. x, λ x. x) (λ x. x, λ x. x) k, λ k. kept-alike (e.1, e.0) (λ x. x, λ x. x) (λ x. x, λ x. x) k)

module _ (b : Option (PlacedData ℕ)) (x y : PlacedData ℕ) (r : Bool) (is : r ≡ is_same_identity (identity_of y.content) (identity_of x.content)) where
  pub counts-same : r ≡ true → Decides true (Counts b x y)
  counts-same t = (λ h. inl ((same-Decides y x r is).0 t), λ h. refl)

  pub counts-base : r ≡ false → Some (key y) ≡ key_if b → Decides true (Counts b x y)
  counts-base f e = (λ h. inr (inl (sym e)), λ h. refl)

  pub counts-sourceless : (s : Bool) → r ≡ false → ¬ (Some (key y) ≡ key_if b) → Decides s (IsSourceless y) → Decides s (Counts b x y)
  counts-sourceless s f none d = (
    λ h. inr (inr (d.0 h)),
    λ h. elim h [
      | inl e ↦ absurd (true≢false (sym ((same-Decides y x r is).1 e) ∙ f))
      | inr more ↦ elim more [ inl e ↦ absurd (none (sym e)) | inr k ↦ d.1 k ]
    ],
  )

-- where both sides count
pub depends-kept : (b : Option (PlacedData ℕ)) (o t x : PlacedData ℕ) (d : ℕ) → Counts b x o → Counts b x t
    → IsKept (DependsOn b d) (Contains o.dependencies d) (Contains t.dependencies d) ↔ IsDependencyOf b (Some o) (Some t) x d
depends-kept b o t x d co ct = (
  λ k. inl (co, ct, k),
  λ h. elim h [
    | inl k ↦ k.2
    | inr more ↦ elim more [ inl n ↦ absurd (n.0 co) | inr n ↦ absurd (n.0 ct) ]
  ],
)
