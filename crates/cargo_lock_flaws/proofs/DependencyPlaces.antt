-- How dependencies are told, one after another.
use Rattle.std.proofs.Common.{◌≡◌, ◌<◌, ◌≤◌, ◌+◌, ◌⊎◌, ◌↔◌, inl, inr, ℕ, Bool, true, false, cond, List, [], ◌∷◌, ◌++◌, length, get_or, slice_get, Some, refl, sym, ap, subst, ◌∙◌, arith}
use Rattle.std.specs.Bool.{Decides}
use Rattle.std.specs.List.{Contains}
use Rattle.std.proofs.lemmas.Bool.{cases_eq, false≢true}
use Rattle.std.proofs.lemmas.List.Elements.{Contains-append_left, Contains-get_or, Contains-push, Contains-push_cases}
use Rattle.std.proofs.lemmas.List.Quantifiers.{all_pairs_push}
use Rattle.std.proofs.lemmas.Option.{slice_get_read, slice_get_within, same_Some}
use Rattle.cargo_lock_parts.specs.Identity.{Identity, PackageData}
use Rattle.cargo_lock_flaws.specs.Dependencies.{AreDependencies, AreDependenciesBefore, HoldsAt, HoldsOfDependency, IsEarlierDependency}

-- ---- one dependency

-- what holds at a place of a package's dependencies
pub there : (P : List Identity → ℕ → Type 0) (packages : List PackageData) (place at : ℕ) (p : PackageData) → slice_get packages place ≡ Some p
    → HoldsAt P packages place at ↔ P p.dependencies at
there P packages place at p here = (
  λ h. subst (λ (r : PackageData). P r.dependencies at) (same_Some h.0 p (sym h.1 ∙ here)) h.2,
  λ h. (p, here, h),
)

-- what holds of the dependency at a place
pub of-dependency : (P : Identity → Type 0) (ds : List Identity) (at : ℕ) (d : Identity) → slice_get ds at ≡ Some d → HoldsOfDependency P ds at ↔ P d
of-dependency P ds at d here = (
  λ h. subst P (same_Some h.0 d (sym h.1 ∙ here)) h.2,
  λ h. (d, here, h),
)

-- ---- one after another

cases-before : (k j place at : ℕ) → IsEarlierDependency (k, j) (place, at + 1) → IsEarlierDependency (k, j) (place, at) ⊎ ((k ≡ place) × (j ≡ at))
cases-before k j place at (inl earlier) = inl (inl earlier)
cases-before k j place at (inr (same, low)) = elim (cases_eq j at) [
  | inl here ↦ inr (same, here)
  | inr other ↦ inl (inr (same, omega (arith, low, other)))
]

more-before : (k j place at : ℕ) → IsEarlierDependency (k, j) (place, at) → IsEarlierDependency (k, j) (place, at + 1)
more-before k j place at (inl earlier) = inl earlier
more-before k j place at (inr (same, low)) = inr (same, omega (arith, low))

pub put : (P : ℕ → ℕ → Type 0) (place at : ℕ) (places grown : List (ℕ × ℕ)) → AreDependenciesBefore P place at places → P place at
    → grown ≡ places ++ (place, at) ∷ [] → AreDependenciesBefore P place (at + 1) grown
put P place at places grown are here grows =
    rw grows record {
      ascending = all_pairs_push IsEarlierDependency places (place, at) are.ascending (λ i d low.
          let one : ℕ × ℕ = get_or places i d in
          ((are.told one.0 one.1).0 (Contains-get_or places i d low)).0);
      told = λ k j. (
        λ h. elim (Contains-push_cases places (place, at) (k, j) h) [
          | inl old ↦ let (before, is) = (are.told k j).0 old in (more-before k j place at before, is)
          | inr same ↦
              let first : place ≡ k = ap (λ (q : ℕ × ℕ). q.0) same in
              let second : at ≡ j = ap (λ (q : ℕ × ℕ). q.1) same in
              (inr (sym first, omega (arith, second)), subst (λ n. P n j) first (subst (λ n. P place n) second here))
        ],
        λ h. elim (cases-before k j place at h.0) [
          | inl before ↦ Contains-append_left places ((place, at) ∷ []) (k, j) ((are.told k j).1 (before, h.1))
          | inr (first, second) ↦ subst (λ (q : ℕ × ℕ). Contains (places ++ (place, at) ∷ []) q) (λ i. (sym first i, sym second i)) (Contains-push places (place, at))
        ],
      );
    }

pub pass : (P : ℕ → ℕ → Type 0) (place at : ℕ) (places : List (ℕ × ℕ)) → AreDependenciesBefore P place at places → ¬ P place at
    → AreDependenciesBefore P place (at + 1) places
pass P place at places are miss = record {
  ascending = are.ascending;
  told = λ k j. (
    λ h. let (before, is) = (are.told k j).0 h in (more-before k j place at before, is),
    λ h. elim (cases-before k j place at h.0) [
      | inl before ↦ (are.told k j).1 (before, h.1)
      | inr (first, second) ↦ absurd (miss (subst (λ n. P n at) first (subst (λ n. P k n) second h.1)))
    ],
  );
}

-- one more dependency, tested
pub tested : (P : ℕ → ℕ → Type 0) (place at : ℕ) (b : Bool) (places grown : List (ℕ × ℕ)) → Decides b (P place at) → grown ≡ cond b (places ++ (place, at) ∷ []) places
    → AreDependenciesBefore P place at places → AreDependenciesBefore P place (at + 1) grown
tested P place at true places grown tells grows are = put P place at places grown are (tells.0 refl) grows
tested P place at false places grown tells grows are = rw grows (pass P place at places are (λ h. false≢true (tells.1 h)))

-- ---- one package after another

next-before : (k j place at : ℕ) → IsEarlierDependency (k, j) (place, at) → IsEarlierDependency (k, j) (place + 1, 0)
next-before k j place at (inl earlier) = inl (omega (arith, earlier))
next-before k j place at (inr (same, low)) = inl (omega (arith, same))

before-next : (k j place : ℕ) → IsEarlierDependency (k, j) (place + 1, 0) → (k < place) ⊎ (k ≡ place)
before-next k j place (inl earlier) = elim (cases_eq k place) [
  | inl same ↦ inr same
  | inr other ↦ inl (omega (arith, earlier, other))
]
before-next k j place (inr (same, low)) = absurd (omega (arith, low))

pub next : (P : ℕ → ℕ → Type 0) (place at : ℕ) (places : List (ℕ × ℕ)) → ((j : ℕ) → P place j → j < at)
    → AreDependenciesBefore P place at places → AreDependenciesBefore P (place + 1) 0 places
next P place at places within are = record {
  ascending = are.ascending;
  told = λ k j. (
    λ h. let (before, is) = (are.told k j).0 h in (next-before k j place at before, is),
    λ h. elim (before-next k j place h.0) [
      | inl earlier ↦ (are.told k j).1 (inl earlier, h.1)
      | inr same ↦ (are.told k j).1 (inr (same, within j (subst (λ n. P n j) same h.1)), h.1)
    ],
  );
}

-- no dependency of the package follows
pub next-from : (Q : Identity → List Identity → ℕ → Type 0) (packages : List PackageData) (place at : ℕ) (p : PackageData) (places : List (ℕ × ℕ))
    → slice_get packages place ≡ Some p → length p.dependencies ≤ at
    → AreDependenciesBefore (HoldsAt (λ ds j. HoldsOfDependency (λ d. Q d ds j) ds j) packages) place at places
    → AreDependenciesBefore (HoldsAt (λ ds j. HoldsOfDependency (λ d. Q d ds j) ds j) packages) (place + 1) 0 places
next-from Q packages place at p places here past are =
    next (HoldsAt (λ ds j. HoldsOfDependency (λ d. Q d ds j) ds j) packages) place at places
    (λ j h.
    let at-p = (there (λ ds j. HoldsOfDependency (λ d. Q d ds j) ds j) packages place j p here).0 h in
    let low = slice_get_within p.dependencies j at-p.0 at-p.1 in
    omega (arith, low, past)) are

-- no dependency of the package at a place follows
pub next-package : (Q : Identity → List Identity → ℕ → Type 0) (packages : List PackageData) (place at : ℕ) (p : PackageData) (dependencies : List Identity)
    (places : List (ℕ × ℕ)) → place < length packages → p ≡ get_or packages place p → dependencies ≡ p.dependencies → length dependencies ≤ at
    → AreDependenciesBefore (HoldsAt (λ ds j. HoldsOfDependency (λ d. Q d ds j) ds j) packages) place at places
    → AreDependenciesBefore (HoldsAt (λ ds j. HoldsOfDependency (λ d. Q d ds j) ds j) packages) (place + 1) 0 places
next-package Q packages place at p dependencies places within is whole past are =
    let long = ap length whole in
    next-from Q packages place at p places (slice_get_read packages (length packages) place p refl within is)
    (omega (arith, past, long)) are

none-before : (k j : ℕ) → ¬ IsEarlierDependency (k, j) (0, 0)
none-before k j (inl earlier) = omega (arith, earlier)
none-before k j (inr (same, low)) = omega (arith, low)

pub none : (P : ℕ → ℕ → Type 0) → AreDependenciesBefore P 0 0 []
none P = record {
  ascending = λ i j d low high. absurd (omega (arith, low, high));
  told = λ k j. (
    λ h. let low = h.1 in absurd (omega (arith, low)),
    λ h. absurd (none-before k j h.0),
  );
}

pub all : (P : List Identity → ℕ → Type 0) (packages : List PackageData) (place : ℕ) (places : List (ℕ × ℕ)) → length packages ≤ place
    → AreDependenciesBefore (HoldsAt P packages) place 0 places → AreDependencies (HoldsAt P packages) places
all P packages place places past are = record {
  ascending = are.ascending;
  told = λ k j. (
    λ h. ((are.told k j).0 h).1,
    λ h. let low = slice_get_within packages k h.0 h.1 in (are.told k j).1 (inl (omega (arith, low, past)), h),
  );
}
