-- Two lists whose members are paired if each is the only one of its list that is like the other.
use Rattle.std.specs.Prelude.{◌≡◌, Bool, true, List, [], ◌∷◌, ◌++◌, count_by, IsPermutation, All}
use Rattle.cargo_lock_diff.specs.Matching.{firsts, seconds}

-- exactly one member of the list is like x
abbrev pub StandsOnce : {X : Type 0} → (X → X → Bool) → X → List X → Type 0
StandsOnce same x xs = count_by (same x) xs ≡ 1

-- nothing has exactly one like it among the old and exactly one like it among the new
abbrev pub NoneOnBothSides : {X : Type 0} → (X → X → Bool) → List X → List X → Type 0
NoneOnBothSides {X} same old new = (x : X) → StandsOnce same x old → StandsOnce same x new → ⊥

-- Each of the old and of the new is in a pair or is left, as often as it was in its list. The
-- members of a pair are alike, and no other member of their lists is like them. And nothing is left
-- that has exactly one like it among the old and exactly one among the new that are left.
pub record ArePaired {X : Type 0} (same : X → X → Bool) (olds news : List X)
    (pairs : List (X × X)) (old new : List X) : Type 0 where
  pub olds_told : IsPermutation olds (firsts pairs ++ old)
  pub news_told : IsPermutation news (seconds pairs ++ new)
  pub alike : All (λ p. same p.0 p.1 ≡ true) pairs
  pub olds_once : All (λ p. StandsOnce same p.0 olds) pairs
  pub news_once : All (λ p. StandsOnce same p.1 news) pairs
  pub none_left : NoneOnBothSides same old new

-- The members of a list, separated: those that are like no other member, and the others.
pub record AreSplit {X : Type 0} (same : X → X → Bool) (all alone others : List X) : Type 0 where
  pub told : IsPermutation all (alone ++ others)
  pub once : All (λ x. StandsOnce same x all) alone
  pub more : All (λ x. StandsOnce same x all → ⊥) others

-- Several pairings in turn, each of the members that the earlier ones have left: the pairs of each.
abbrev pub ArePairedInTurn : {X : Type 0} → List (X → X → Bool) → List X → List X
    → List (List (X × X)) → List X → List X → Type 0
ArePairedInTurn [] olds news [] old new = (olds ≡ old) × (news ≡ new)
ArePairedInTurn [] olds news (p ∷ ps) old new = ⊥
ArePairedInTurn (same ∷ more) olds news [] old new = ⊥
ArePairedInTurn {X} (same ∷ more) olds news (pairs ∷ ps) old new = (o : List X) × (n : List X)
    × ArePaired same olds news pairs o n × ArePairedInTurn more o n ps old new

-- a pair with its members exchanged
abbrev pub exchanged_pair : {X : Type 0} → X × X → X × X
exchanged_pair p = (p.1, p.0)

-- members that are alike by the first test are alike by the second
abbrev pub IsFiner : {X : Type 0} → (X → X → Bool) → (X → X → Bool) → Type 0
IsFiner {X} fine coarse = (x y : X) → fine x y ≡ true → coarse x y ≡ true
