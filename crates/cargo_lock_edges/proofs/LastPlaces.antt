-- The last of some places at which something holds, as a walk from the last one back finds it.
use Rattle.std.proofs.Common.{◌≡◌, ◌≤◌, ◌<◌, ◌+◌, ◌∙◌, inl, inr, ℕ, List, Option, None, Some, MatchOption, arith, get_or, length, nat_lt, subst, sym}
use Rattle.std.specs.List.{AllPairs, Contains}
use Rattle.std.proofs.lemmas.Bool.{cases_Bool, cases_eq, ltb-false, ltb-true}
use Rattle.cargo_lock_graph.specs.Targets.{IsLost, IsTarget}
use Rattle.cargo_lock_parts.specs.Identity.{Identity, PackageData}
use Rattle.lists.proofs.Members.{same-place}
use Rattle.cargo_lock_edges.specs.declared.likeness.Likeness.{Likeness}
use Rattle.cargo_lock_edges.specs.declared.likeness.Likeness.TheVariants.{Rank}
use Rattle.cargo_lock_edges.specs.declared.groups.BestGroup.{BestGroup}
use Rattle.cargo_lock_edges.specs.Groups.{Grouping, IsBestGroup, IsPinnedMatch, group_places}
use Rattle.cargo_lock_edges.specs.Likeness.{HasAllLike, IsLastLike, IsLikeAt}
use Rattle.cargo_lock_edges.specs.Nearest.{HasNoOwn, IsNearestPackage, IsNearestTarget, IsOwnTarget}
use Rattle.cargo_lock_graph.specs.Targets.{MatchesAt}
use Rattle.cargo_lock_edges.proofs.NearestPlaces.{none-other, none-own, other-fourth, target-third}

-- ---- the walk

-- P holds at none of the places from an index on
abbrev pub IsFreeFrom : (ℕ → Type 0) → List ℕ → ℕ → Type 0
IsFreeFrom P places after = (i : ℕ) → after ≤ i → i < length places → ¬ P (get_or places i 0)

-- it holds at the place of the index before neither
pub free-more : (P : ℕ → Type 0) (places : List ℕ) (at : ℕ) → ¬ P (get_or places at 0)
    → IsFreeFrom P places (at + 1) → IsFreeFrom P places at
free-more P places at miss free i from low = elim (cases_eq i at) [
  | inl same ↦ subst (λ n. ¬ P (get_or places n 0)) (sym same) miss
  | inr other ↦ free i (omega (arith, from, other)) low
]

-- it holds at none of the places
pub free-all : (P : ℕ → Type 0) (places : List ℕ) → IsFreeFrom P places 0 → (k : ℕ)
    → Contains places k → ¬ P k
free-all P places free k (i, low, is) f =
    free i (omega arith) low (subst P (sym (same-place places i k 0 low ∙ is)) f)

-- it holds at the place of an index, and at none of those behind, so at none past it
pub last-here : (P : ℕ → Type 0) (places : List ℕ) (at : ℕ) → AllPairs (λ a b. a ≤ b) places
    → at < length places → IsFreeFrom P places (at + 1) → (k : ℕ) → Contains places k → P k
    → k ≤ get_or places at 0
last-here P places at up within free k (i, low, is) f =
    let here : get_or places i 0 ≡ k = same-place places i k 0 low ∙ is in
    elim (cases_Bool (nat_lt at i)) [
      | inl behind ↦
          let more = ltb-true at i behind in
          absurd (free i (omega (arith, more)) low (subst P (sym here) f))
      | inr before ↦
          let less = ltb-false at i before in
          elim (cases_eq i at) [
            | inl same ↦ subst (λ n. k ≤ get_or places n 0) same (omega (arith, here))
            | inr other ↦
                let order = up i at 0 (omega (arith, less, other)) within in
                omega (arith, order, here)
          ]
    ]

-- ---- what is found

-- the last of the places of a group is that of all
pub last-of-all : (groups : Grouping) (d : Identity) (likeness : Likeness) (number : ℕ)
    (places : List ℕ) (o : Option ℕ) → places ≡ group_places groups number
    → HasAllLike groups d likeness number
    → MatchOption o ((k : ℕ) → Contains places k → ¬ IsLikeAt groups.packages d likeness k)
    (λ place. IsLikeAt groups.packages d likeness place × ((k : ℕ) → Contains places k
    → IsLikeAt groups.packages d likeness k → k ≤ place))
    → MatchOption o ((k : ℕ) → ¬ IsLikeAt groups.packages d likeness k)
    (IsLastLike groups.packages d likeness)
last-of-all groups d likeness number places None are all h =
    λ k f. h k (subst (λ (ks : List ℕ). Contains ks k) (sym are) (all k f)) f
last-of-all groups d likeness number places (Some place) are all h = record {
  like = h.0;
  last = λ k f. h.1 k (subst (λ (ks : List ℕ). Contains ks k) (sym are) (all k f)) f;
}

pub third-or-none : (packages : List PackageData) (d : Identity) (o : Option ℕ)
    → ((k : ℕ) → ¬ MatchesAt packages d k 1) → ((k : ℕ) → ¬ IsPinnedMatch packages d k)
    → MatchOption o ((k : ℕ) → ¬ IsLikeAt packages d (Rank 3) k) (IsLastLike packages d (Rank 3))
    → MatchOption o (HasNoOwn packages d) (IsOwnTarget packages d)
third-or-none packages d None first second h = none-own packages d first second h
third-or-none packages d (Some place) first second h = target-third packages d place first second h

pub fourth-or-none : (packages : List PackageData) (d : Identity) (o : Option ℕ)
    → HasNoOwn packages d → ((k : ℕ) → ¬ MatchesAt packages d k 2)
    → MatchOption o ((k : ℕ) → ¬ IsLikeAt packages d (Rank 4) k) (IsLastLike packages d (Rank 4))
    → MatchOption o (IsLost packages d) (IsTarget packages d)
fourth-or-none packages d None none second h = none-other packages d none second h
fourth-or-none packages d (Some place) none second h = other-fourth packages d place none second h

pub nearest-or-none : (packages : List PackageData) (d : Identity) (o : Option ℕ)
    → HasNoOwn packages d → MatchOption o (IsLost packages d) (IsTarget packages d)
    → MatchOption o (IsLost packages d) (IsNearestPackage packages d)
nearest-or-none packages d None none h = h
nearest-or-none packages d (Some place) none h = inr (none, h)

-- the last of those that match with the best rank is that to which the dependency resolves
pub target-of-best : (groups : Grouping) (d : Identity) (best : BestGroup) (o : Option ℕ)
    → IsBestGroup groups d best
    → MatchOption o ((k : ℕ) → ¬ IsLikeAt groups.packages d (Rank best.rank) k)
    (IsLastLike groups.packages d (Rank best.rank))
    → MatchOption o (IsLost groups.packages d) (IsTarget groups.packages d)
target-of-best groups d best None is none = absurd (none is.some.0 is.some.1)
target-of-best groups d best (Some place) is last = record {
  rank = best.rank;
  fits = last.like;
  least = is.least;
  last = last.last;
}

-- ---- the only package of a name and a version

pub fit-target : (packages : List PackageData) (d : Identity) (o : Option ℕ)
    → MatchOption o (IsLost packages d) (IsNearestTarget packages d)
    → MatchOption o (IsLost packages d) (IsTarget packages d)
fit-target packages d None lost = lost
fit-target packages d (Some place) both = both.1

pub fit-nearest : (packages : List PackageData) (d : Identity) (o : Option ℕ)
    → MatchOption o (IsLost packages d) (IsNearestTarget packages d)
    → MatchOption o (IsLost packages d) (IsNearestPackage packages d)
fit-nearest packages d None lost = lost
fit-nearest packages d (Some place) both = both.0
