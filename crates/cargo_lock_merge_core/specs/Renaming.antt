-- Places that are renamed.
use Rattle.std.specs.Prelude.{◌≡◌, ◌⊎◌, List, Some, map, option_map}
use Rattle.std.specs.List.{Contains}
use Rattle.cargo_lock_merge_core.specs.Merge.{MatterData, OfChecksum, OfLostChecksum, OfPackage}
use Rattle.cargo_lock_merge_core.specs.Merge.{OfReplacement, OfSource, OfVersion, Triple}
use Rattle.cargo_lock_merge_core.specs.Placed.{PlacedData}

-- the package with its places renamed
abbrev pub rename : {P Q : Type 0} → (P → Q) → PlacedData P → PlacedData Q
rename f x = record {
  place = f x.place;
  content = x.content;
  dependencies = map f x.dependencies;
  replacement = option_map f x.replacement;
}

-- the packages of a list with their places renamed
abbrev pub rename_all : {P Q : Type 0} → (P → Q) → List (PlacedData P) → List (PlacedData Q)
rename_all f = map (rename f)

-- the three lists with their places renamed
abbrev pub rename_triple : {P Q : Type 0} → (P → Q) → Triple P → Triple Q
rename_triple f s = record {
  base = rename_all f s.base;
  ours = rename_all f s.ours;
  theirs = rename_all f s.theirs;
}

-- the matter with its place renamed
abbrev pub rename_matter : {P Q : Type 0} → (P → Q) → MatterData P → MatterData Q
rename_matter f (OfPackage p) = OfPackage (f p)
rename_matter f (OfChecksum p) = OfChecksum (f p)
rename_matter f (OfReplacement p) = OfReplacement (f p)
rename_matter f (OfSource g) = OfSource g
rename_matter f (OfVersion p) = OfVersion (f p)
rename_matter f (OfLostChecksum p) = OfLostChecksum (f p)

-- the place is that of a package of the list, or a package refers to it
abbrev pub Has : {P : Type 0} → List (PlacedData P) → P → Type 0
Has {P = P} xs p = (x : PlacedData P) × Contains xs x
    × ((x.place ≡ p) ⊎ (Contains x.dependencies p ⊎ (x.replacement ≡ Some p)))

-- the place is of one of the three lists
abbrev pub IsUsed : {P : Type 0} → Triple P → P → Type 0
IsUsed s p = Has s.base p ⊎ (Has s.ours p ⊎ Has s.theirs p)

-- no two used places have one name
abbrev pub IsOneToOne : {P Q : Type 0} → Triple P → (P → Q) → Type 0
IsOneToOne {P = P} s f = (p q : P) → IsUsed s p → IsUsed s q → f p ≡ f q → p ≡ q
