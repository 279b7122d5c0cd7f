-- What is decided: whether places are one, and what a list has at a place or of a git source.
use Rattle.std.proofs.Common.{◌≡◌, ◌⊎◌, inl, inr, ℕ, List, [], ◌∷◌, Option, Some, None, refl, sym, ap, subst, ◌∙◌}
use Rattle.std.specs.Cmp.{IsTotalOrder}
use Rattle.std.specs.FinMap.{IsAntisymmetric}
use Rattle.std.specs.List.{Contains}
use Rattle.std.specs.declared.cmp.Ordering.{Ordering}
use Rattle.std.specs.declared.cmp.Ordering.TheVariants.{Less, Equal, Greater}
use Rattle.std.proofs.lemmas.Bool.{cases_Bool}
use Rattle.std.proofs.lemmas.Cmp.{tied_itself}
use Rattle.std.proofs.lemmas.List.Elements.{Contains-append_right}
use Rattle.std.proofs.lemmas.Option.{same_Some}
use Rattle.std.proofs.Common.{true≢false}
use Rattle.cargo_lock_parts.specs.Identity.{PackageData, identity_of}
use Rattle.cargo_lock_parts.specs.IdentityLaws.{is_same_identity-Decides, key_cmp-anti}
use Rattle.cargo_lock_parts.specs.IdentityOrder.{is_same_identity}
use Rattle.cargo_lock_parts.specs.PartialIdentity.{partial_key-anti, partial_key-total}
use Rattle.cargo_lock_parts.specs.SourceKey.{Key}
use Rattle.cargo_lock_parts.specs.SourceLaws.{key_total}
use Rattle.cargo_lock_merge_core.specs.Commits.{HasCommit, IsCommitIn, commit_in, git_in}
use Rattle.cargo_lock_merge_core.specs.Placed.{HasAt, IsAt, PlacedData, key}
use Rattle.cargo_lock_merge_core.specs.Places.{Place}
use Rattle.lists.proofs.Members as members
use Rattle.lists.proofs.Members.{first-in, none-in}

-- ---- one value or two

tied-cases : (r : Ordering) → (r ≡ Equal) ⊎ (¬ (r ≡ Equal))
tied-cases Less = inr (λ e. absurd (cc e))
tied-cases Equal = inl refl
tied-cases Greater = inr (λ e. absurd (cc e))

same-cases : {K : Type 0} (R : K → K → Ordering) → IsTotalOrder R → IsAntisymmetric R → (a b : K) → (a ≡ b) ⊎ (¬ (a ≡ b))
same-cases R total anti a b = elim (tied-cases (R a b)) [
  | inl e ↦ inl (anti a b e)
  | inr n ↦ inr (λ e. n (subst (λ k. R a k ≡ Equal) e (tied_itself total a)))
]

pub place-cases : (p q : Place) → (p ≡ q) ⊎ (¬ (p ≡ q))
place-cases p q = same-cases _ partial_key-total partial_key-anti p q

pub key-cases : (x y : PlacedData Place) → (key x ≡ key y) ⊎ (¬ (key x ≡ key y))
key-cases x y =
    let d = is_same_identity-Decides (identity_of x.content) (identity_of y.content) in
    elim (cases_Bool (is_same_identity (identity_of x.content) (identity_of y.content))) [
      | inl t ↦ inl (d.0 t)
      | inr f ↦ inr (λ e. true≢false (sym (d.1 e) ∙ f))
    ]

some-cases : (o : Option Key) (g : Key) → (o ≡ Some g) ⊎ (¬ (o ≡ Some g))
some-cases None g = inr (λ e. absurd (cc e))
some-cases (Some k) g = elim (same-cases _ key_total key_cmp-anti k g) [
  | inl e ↦ inl (ap Some e)
  | inr n ↦ inr (λ e. n (same_Some k g e))
]

-- ---- lists

pub contains-cases : (xs : List Place) (d : Place) → Contains xs d ⊎ (¬ Contains xs d)
contains-cases [] d = inr (none-in d)
contains-cases (x ∷ xs) d = elim (place-cases x d) [
  | inl here ↦ inl (subst (λ (y : Place). Contains (x ∷ xs) y) here (first-in x xs))
  | inr other ↦ elim (contains-cases xs d) [
    | inl rest ↦ inl (Contains-append_right (x ∷ []) xs d rest)
    | inr none ↦ inr (λ h. elim (members.contains-cases x xs d h) [ inl e ↦ other e | inr rest ↦ none rest ])
  ]
]

pub at-cases : (xs : List (PlacedData Place)) (p : Place) → ((x : PlacedData Place) × HasAt xs p x) ⊎ ((x : PlacedData Place) → ¬ HasAt xs p x)
at-cases [] p = inr (λ x h. none-in x h.0)
at-cases (y ∷ ys) p = elim (place-cases y.place p) [
  | inl here ↦ inl (y, (first-in y ys, here))
  | inr other ↦ elim (at-cases ys p) [
    | inl rest ↦ inl (rest.0, (Contains-append_right (y ∷ []) ys rest.0 rest.1.0, rest.1.1))
    | inr none ↦ inr (λ x h. elim (members.contains-cases y ys x h.0) [
      | inl e ↦ other (ap (λ (z : PlacedData Place). z.place) e ∙ h.1)
      | inr rest ↦ none x (rest, h.1)
    ])
  ]
]

pub at-option : (xs : List (PlacedData Place)) (p : Place) → (o : Option (PlacedData Place)) × IsAt xs p o
at-option xs p = elim (at-cases xs p) [ inl some ↦ (Some some.0, some.1) | inr none ↦ (None, none) ]

commit-cases : (ps : List PackageData) (g : Key) → ((c : Option (List ℕ)) × HasCommit ps g c) ⊎ ((c : Option (List ℕ)) → ¬ HasCommit ps g c)
commit-cases [] g = inr (λ c h. none-in h.0 h.1)
commit-cases (p ∷ ps) g = elim (some-cases (git_in p.source) g) [
  | inl is ↦ inl (commit_in p.source, (p, first-in p ps, (is, refl)))
  | inr other ↦ elim (commit-cases ps g) [
    | inl rest ↦ inl (rest.0, (rest.1.0, Contains-append_right (p ∷ []) ps rest.1.0 rest.1.1, rest.1.2))
    | inr none ↦ inr (λ c h. elim (members.contains-cases p ps h.0 h.1) [
      | inl e ↦ other (subst (λ (q : PackageData). git_in q.source ≡ Some g) (sym e) h.2.0)
      | inr rest ↦ none c (h.0, rest, h.2)
    ])
  ]
]

pub commit-option : (ps : List PackageData) (g : Key) → (o : Option (Option (List ℕ))) × IsCommitIn ps g o
commit-option ps g = elim (commit-cases ps g) [ inl some ↦ (Some some.0, some.1) | inr none ↦ (None, none) ]
