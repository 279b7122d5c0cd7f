-- Laws of pairings by the only ones that are alike, for one pairing and for several in turn.
use Rattle.std.specs.Prelude.{◌≡◌, ◌↔◌, Bool, true, List, ◌∷◌, ◌++◌, map, IsPermutation, All}
use Rattle.std.specs.List.{Contains, flat_map}
use Rattle.cargo_lock_parts.specs.Identity.{PackageData}
use Rattle.cargo_lock_diff.specs.declared.likeness.Likeness.{Likeness}
use Rattle.cargo_lock_diff.specs.Likeness.{is_alike}
use Rattle.cargo_lock_diff.specs.Matching.{firsts, seconds}
use Rattle.cargo_lock_diff.specs.Pairing.{ArePaired, ArePairedInTurn, IsFiner, NoneOnBothSides}
use Rattle.cargo_lock_diff.specs.Pairing.{StandsOnce, exchanged_pair}

-- an old and a new package that are alike, and like no other package of their lists
pub record AreOnlyAlike {X : Type 0} (same : X → X → Bool) (olds news : List X)
    (a b : X) : Type 0 where
  pub old_there : Contains olds a
  pub new_there : Contains news b
  pub alike : same a b ≡ true
  pub old_once : StandsOnce same a olds
  pub new_once : StandsOnce same b news

-- the pairs are exactly those, so they do not depend on the order of the lists
abbrev pub PairedExactly : Type 0
PairedExactly = (likeness : Likeness) (olds news : List PackageData)
    (pairs : List (PackageData × PackageData)) (old new : List PackageData)
    → ArePaired (is_alike likeness) olds news pairs old new
    → (a b : PackageData) → Contains pairs (a, b) ↔ AreOnlyAlike (is_alike likeness) olds news a b

-- each package is in a pair of one pairing or left, as often as it was given
abbrev pub ToldInTurn : Type 0
ToldInTurn = (likenesses : List Likeness) (olds news : List PackageData)
    (passes : List (List (PackageData × PackageData))) (old new : List PackageData)
    → ArePairedInTurn (map is_alike likenesses) olds news passes old new
    → IsPermutation olds (firsts (flat_map (λ pairs. pairs) passes) ++ old)
    × IsPermutation news (seconds (flat_map (λ pairs. pairs) passes) ++ new)

-- if the lists are exchanged, the members of the pairs are exchanged, and so is what is left
abbrev pub MirroredInTurn : Type 0
MirroredInTurn = (likenesses : List Likeness) (olds news : List PackageData)
    (passes : List (List (PackageData × PackageData))) (old new : List PackageData)
    → ArePairedInTurn (map is_alike likenesses) olds news passes old new
    → ArePairedInTurn (map is_alike likenesses) news olds
    (map (λ pairs. map exchanged_pair pairs) passes) new old

-- After all pairings, no member is left that is the only one alike on both sides, by a likeness
-- that is finer than all likenesses after it. (If it is not finer, a later pairing can remove one
-- of two that are alike by it, and leave the other as the only one.)
abbrev pub NoneIsLeftInTurn : Type 0
NoneIsLeftInTurn = (before : List Likeness) (likeness : Likeness) (later : List Likeness)
    → All (λ other. IsFiner (is_alike likeness) (is_alike other)) later
    → (olds news : List PackageData) (passes : List (List (PackageData × PackageData)))
    (old new : List PackageData)
    → ArePairedInTurn (map is_alike (before ++ likeness ∷ later)) olds news passes old new
    → NoneOnBothSides (is_alike likeness) old new
