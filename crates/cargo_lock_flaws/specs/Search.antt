-- Which groups the search for the packages that the workspace leads to has reached as a whole.
use Rattle.std.specs.Prelude.{ℕ, Bool, List}
use Rattle.std.specs.List.{Contains}
use Rattle.lists.specs.Marks.{IsMarked}
use Rattle.lists.specs.Reach.{ReachData}
use Rattle.cargo_lock_edges.specs.Groups.{Grouping, group_places}

-- these places have marks
abbrev pub AreReached : List ℕ → ReachData → Type 0
AreReached places search = (k : ℕ) → Contains places k → IsMarked search.marks k

-- the packages of the groups that have a mark have marks
abbrev pub AreGroupsAsked : Grouping → ReachData → List Bool → Type 0
AreGroupsAsked groups search asked = (n : ℕ) → IsMarked asked n
    → AreReached (group_places groups n) search
