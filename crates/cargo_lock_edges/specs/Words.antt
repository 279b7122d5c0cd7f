-- The group of those packages that are of a dependency's own words.
use Rattle.std.specs.Prelude.{ℕ}
use Rattle.std.specs.List.{Contains}
use Rattle.cargo_lock_parts.specs.Identity.{Identity}
use Rattle.cargo_lock_edges.specs.Groups.{Grouping, group_places}
use Rattle.cargo_lock_edges.specs.Nearest.{IsOfOwnWordsAt}

-- each package of the dependency's own words is in the group with the number
abbrev pub HasOwnWords : Grouping → Identity → ℕ → Type 0
HasOwnWords groups d number = (k : ℕ) → IsOfOwnWordsAt groups.packages d k
    → Contains (group_places groups number) k
