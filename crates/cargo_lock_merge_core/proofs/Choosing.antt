-- Which package is chosen at a place.
use Rattle.std.proofs.Common.{◌≡◌, ◌⊎◌, ℕ, inl, inr, Bool, true, false, Option, Some, None, refl, sym, ap, subst, ◌∙◌, true≢false}
use Rattle.std.specs.Prelude.{cond}
use Rattle.std.specs.Bool.{Decides}
use Rattle.std.proofs.lemmas.Option.{same_Some}
use Rattle.cargo_lock_merge_core.specs.declared.rule3.Side.{Side}
use Rattle.cargo_lock_merge_core.specs.declared.rule3.Side.TheVariants.{Ours, Theirs}
use Rattle.cargo_lock_merge_core.specs.Agreed.{IsSideAt, IsUsable, IsVersionSide}
use Rattle.cargo_lock_merge_core.specs.Choices.{AreOfGit, IsByRule, IsChosen, IsOfGit, IsOfSide}
use Rattle.cargo_lock_merge_core.specs.Commits.{IsAtMergedCommit, Lockfiles}
use Rattle.cargo_lock_merge_core.specs.Numbered.{IsChoice, side_of}
use Rattle.cargo_lock_merge_core.specs.Placed.{PlacedData, key, key_if}
use Rattle.cargo_lock_merge_core.specs.Rule3.{IsAgreed, IsInConflict}
use Rattle.cargo_lock_merge_core.proofs.Agreeing.{agreed-apart}

-- ---- one side alone

-- x is the only package of the two sides
abbrev pub IsOnly : Option (PlacedData ℕ) → Option (PlacedData ℕ) → PlacedData ℕ → Type 0
IsOnly o t x = (y : PlacedData ℕ) → IsOfSide o t y → x ≡ y

pub only-ours : (o : PlacedData ℕ) → IsOnly (Some o) None o
only-ours o y (inl e) = same_Some o y e
only-ours o y (inr e) = absurd cc

pub only-theirs : (t : PlacedData ℕ) → IsOnly None (Some t) t
only-theirs t y (inl e) = absurd cc
only-theirs t y (inr e) = same_Some t y e

module _ (all : Lockfiles) (b o t : Option (PlacedData ℕ)) (x : PlacedData ℕ) (here : IsOfSide o t x) (only : IsOnly o t x) where
  pub only-chosen : IsByRule b o t x → IsUsable all x.content → IsChosen all b o t x
  only-chosen rule (inl other) =
      (here, inr (λ g. other (subst (λ (y : PlacedData ℕ). IsOfGit y.content) (sym (only g.0 g.1)) g.2), rule))
  only-chosen rule (inr at) =
      (here, inl ((x, here, (at.0, at.1)), record { this = at; others = λ y s a. ap (λ (z : PlacedData ℕ). key z) (sym (only y s)) }))

  pub only-not : ¬ IsUsable all x.content → (y : PlacedData ℕ) → ¬ IsChosen all b o t y
  only-not none y (s, inl c) = none (inr (subst (λ (z : PlacedData ℕ). IsAtMergedCommit all z.content) (sym (only y s)) c.1.this))
  only-not none y (s, inr c) = none (inl (λ g. c.0 (x, here, g)))

-- ---- both sides

module _ (all : Lockfiles) (b : Option (PlacedData ℕ)) (o t : PlacedData ℕ) where
  side-cases : (y : PlacedData ℕ) → IsOfSide (Some o) (Some t) y → (o ≡ y) ⊎ (t ≡ y)
  side-cases y (inl e) = inl (same_Some o y e)
  side-cases y (inr e) = inr (same_Some t y e)

  to-key : (x y : PlacedData ℕ) → x ≡ y → key y ≡ key x
  to-key x y e = ap (λ (z : PlacedData ℕ). key z) (sym e)

  to-commit : (x y : PlacedData ℕ) → x ≡ y → IsAtMergedCommit all y.content → IsAtMergedCommit all x.content
  to-commit x y e = subst (λ (z : PlacedData ℕ). IsAtMergedCommit all z.content) (sym e)

  none-commit : (p q s : Bool) → AreOfGit (Some o) (Some t) → Decides p (IsAtMergedCommit all o.content) → Decides q (IsAtMergedCommit all t.content)
      → Decides s (key o ≡ key t) → IsSideAt p q s None → (x : PlacedData ℕ) → ¬ IsChosen all b (Some o) (Some t) x
  none-commit p q s g dp dq ds (inl h) x (at, inl c) = elim (side-cases x at) [
    | inl e ↦ h.0 (dp.1 (to-commit o x e c.1.this))
    | inr e ↦ h.1 (dq.1 (to-commit t x e c.1.this))
  ]
  none-commit p q s g dp dq ds (inr h) x (at, inl c) =
      h.2 (ds.1 (c.1.others o (inl refl) (dp.0 h.0) ∙ sym (c.1.others t (inr refl) (dq.0 h.1))))
  none-commit p q s g dp dq ds h x (at, inr c) = absurd (c.0 g)

  pub by-commit : (p q s : Bool) (r : Option Side) → AreOfGit (Some o) (Some t) → Decides p (IsAtMergedCommit all o.content) → Decides q (IsAtMergedCommit all t.content)
      → Decides s (key o ≡ key t) → IsSideAt p q s r → IsChoice all b (Some o) (Some t) r
  by-commit p q s (Some Ours) g dp dq ds h = (
    o,
    refl,
    (
      inl refl,
      inl (
        g,
        record {
          this = dp.0 h.0;
          others = λ y at a. elim (side-cases y at) [
            | inl e ↦ to-key o y e
            | inr e ↦ to-key t y e ∙ sym (ds.0 (h.1 (dq.1 (to-commit t y e a))))
          ];
        },
      ),
    ),
  )
  by-commit p q s (Some Theirs) g dp dq ds h = (
    t,
    refl,
    (
      inr refl,
      inl (
        g,
        record {
          this = dq.0 h.0;
          others = λ y at a. elim (side-cases y at) [
            | inl e ↦ absurd (h.1 (dp.1 (to-commit o y e a)))
            | inr e ↦ to-key t y e
          ];
        },
      ),
    ),
  )
  by-commit p q s None g dp dq ds h = λ x c. none-commit p q s g dp dq ds h x c

  pub by-rule : (side : Side) → ¬ AreOfGit (Some o) (Some t) → IsAgreed (key_if b) (Some (key o)) (Some (key t)) (side_of (Some (key o)) (Some (key t)) side)
      → IsChoice all b (Some o) (Some t) (Some side)
  by-rule Ours g a = (o, refl, (inl refl, inr (g, inl a)))
  by-rule Theirs g a = (t, refl, (inr refl, inr (g, inl a)))

  none-version : ¬ AreOfGit (Some o) (Some t) → IsInConflict (key_if b) (Some (key o)) (Some (key t)) → IsVersionSide b o t None
      → (x : PlacedData ℕ) → ¬ IsChosen all b (Some o) (Some t) x
  none-version g c v x (at, inl k) = g k.0
  none-version g c v x (at, inr (k, inl a)) = agreed-apart (key_if b) (Some (key o)) (Some (key t)) (Some (key x)) a c
  none-version g c v x (at, inr (k, inr (d, inl h))) = v (d.decisive, inl h.0)
  none-version g c v x (at, inr (k, inr (d, inr h))) = v (d.decisive, inr h.0)

  pub by-version : (r : Option Side) → ¬ AreOfGit (Some o) (Some t) → IsInConflict (key_if b) (Some (key o)) (Some (key t)) → IsVersionSide b o t r
      → IsChoice all b (Some o) (Some t) r
  by-version (Some Ours) g c v = (o, refl, (inl refl, inr (g, inr (record { changed = c; decisive = v.0 }, inl (v.1, refl)))))
  by-version (Some Theirs) g c v = (t, refl, (inr refl, inr (g, inr (record { changed = c; decisive = v.0 }, inr (v.1, refl)))))
  by-version None g c v = λ x k. none-version g c v x k

-- ---- a test of the only package

-- the test decides whether x is taken, and the answer is its side
abbrev pub IsTaken : Lockfiles → PlacedData ℕ → Side → Option Side → Type 0
IsTaken all x side v = (taken : Bool) × Decides taken (IsUsable all x.content) × (v ≡ cond taken (Some side) None)

choice-only : (all : Lockfiles) (b o t : Option (PlacedData ℕ)) (x : PlacedData ℕ) (side : Side) (taken : Bool) → side_of o t side ≡ Some x → IsOfSide o t x → IsOnly o t x
    → IsByRule b o t x → Decides taken (IsUsable all x.content) → IsChoice all b o t (cond taken (Some side) None)
choice-only all b o t x side true at here only rule d = (x, at, only-chosen all b o t x here only rule (d.0 refl))
choice-only all b o t x side false at here only rule d = only-not all b o t x here only (λ u. absurd (true≢false (sym (d.1 u))))

pub choice-ours : (all : Lockfiles) (b o t : Option (PlacedData ℕ)) (x : PlacedData ℕ) (v : Option Side) → o ≡ Some x → t ≡ None → IsTaken all x Ours v → IsChoice all b o t v
choice-ours all b o t x v eo et (taken, d, e) =
    rw (e, eo, et) (choice-only all b (Some x) None x Ours taken refl (inl refl) (only-ours x) tt d)

pub choice-theirs : (all : Lockfiles) (b o t : Option (PlacedData ℕ)) (x : PlacedData ℕ) (v : Option Side) → o ≡ None → t ≡ Some x → IsTaken all x Theirs v → IsChoice all b o t v
choice-theirs all b o t x v eo et (taken, d, e) =
    rw (e, eo, et) (choice-only all b None (Some x) x Theirs taken refl (inr refl) (only-theirs x) tt d)

pub choice-both : (all : Lockfiles) (b o t : Option (PlacedData ℕ)) (x y : PlacedData ℕ) (v : Option Side) → o ≡ Some x → t ≡ Some y → IsChoice all b (Some x) (Some y) v → IsChoice all b o t v
choice-both all b o t x y v eo et h = rw (eo, et) h
