-- An index of a list by name, and by name and version: the places of the items of each.
use Rattle.std.specs.Prelude.{◌&&◌, Bool, ℕ, List, Option, Some, None, map, slice_get}
use Rattle.semver.specs.Parse.{Parts}
use Rattle.cargo_lock_parts.specs.Identity.{Identity}
use Rattle.cargo_lock_parts.specs.PartialIdentity.{PartialIdentity, name_alone, name_and_version}
use Rattle.cargo_lock_index.specs.Near.{IsIndexOf, Placed}
use Rattle.cargo_lock_references.specs.ResolutionSearch.{has_version, same_text}

-- the identity has the name and, if there is one, the version
abbrev pub is_of : List ℕ → Option Parts → Identity → Bool
is_of name version i = same_text i.name name && has_version version i.version

-- the names of a list's items
abbrev pub names_of : {X : Type 0} → (X → Identity) → List X → List PartialIdentity
names_of identity xs = map (λ x. name_alone (identity x).name) xs

-- the names and versions of a list's items
abbrev pub versions_of : {X : Type 0} → (X → Identity) → List X → List PartialIdentity
versions_of identity xs = map (λ x. name_and_version (identity x).name (identity x).version) xs

-- the entries have the places of each name, and those of each name and version
abbrev pub AreIndexes : {X : Type 0} → (X → Identity) → List X → List Placed → List Placed → Type 0
AreIndexes identity xs names versions =
    IsIndexOf (names_of identity xs) names × IsIndexOf (versions_of identity xs) versions

-- the item at a place, if there is a place
abbrev pub item_at : {X : Type 0} → List X → Option ℕ → Option X
item_at xs None = None
item_at xs (Some place) = slice_get xs place
