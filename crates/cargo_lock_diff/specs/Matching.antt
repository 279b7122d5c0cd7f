-- Two lists whose members are paired off by a test.
use Rattle.std.specs.Prelude.{◌≡◌, ◌⊎◌, Bool, true, false, List, [], ◌∷◌, ◌++◌, map, All}
use Rattle.std.specs.Prelude.{IsPermutation}
use Rattle.std.specs.Borrow.{Bor}
use Rattle.cargo_lock_parts.specs.Identity.{PackageData}
use Rattle.cargo_lock_diff.specs.declared.likeness.Likeness.{Likeness}
use Rattle.cargo_lock_diff.specs.Likeness.{is_alike}

-- the first members of pairs
abbrev pub firsts : {X : Type 0} → List (X × X) → List X
firsts = map (λ p. p.0)

-- the second members of pairs
abbrev pub seconds : {X : Type 0} → List (X × X) → List X
seconds = map (λ p. p.1)

-- the first list is the second one with some of its members left out
abbrev pub IsSublist : {X : Type 0} → List X → List X → Type 0
IsSublist [] ys = Unit {0}
IsSublist (x ∷ xs) [] = ⊥
IsSublist (x ∷ xs) (y ∷ ys) = ((x ≡ y) × IsSublist xs ys) ⊎ IsSublist (x ∷ xs) ys

-- pairs in the order of their old ones, and the old and the new ones that are left in the order of
-- their lists
pub record ArePairsInOrder {X : Type 0} (olds news : List X) (pairs : List (X × X))
    (old new : List X)
    : Type 0 where
  pub of_pairs : IsSublist (firsts pairs) olds
  pub of_old : IsSublist old olds
  pub of_new : IsSublist new news

-- x passes the test with none of the list
abbrev pub PassesWithNone : {X : Type 0} → (X → X → Bool) → X → List X → Type 0
PassesWithNone test x ys = All (λ y. test x y ≡ false) ys

-- Each of the old and of the new is in a pair or is left, as often as it was in its list; the
-- members of a pair pass the test; and no old one that is left passes it with a new one that is
-- left.
pub record AreMatched {X : Type 0} (test : X → X → Bool) (olds news : List X)
    (pairs : List (X × X)) (old new : List X) : Type 0 where
  pub olds_told : IsPermutation olds (firsts pairs ++ old)
  pub news_told : IsPermutation news (seconds pairs ++ new)
  pub paired : All (λ p. test p.0 p.1 ≡ true) pairs
  pub apart : All (λ o. PassesWithNone test o new) old

-- the packages to which the references refer are alike
abbrev pub is_alike_at : Likeness → Bor PackageData → Bor PackageData → Bool
is_alike_at likeness a b = is_alike likeness a.now b.now
