-- Laws of the merge, by the places of packages in lockfiles.
use Rattle.std.specs.Prelude.{◌≡◌, ◌⊎◌, ℕ, List}
use Rattle.std.specs.List.{Contains}
use Rattle.cargo_lock_merge_core.specs.Merge.{MatterData, IsMatter, IsMerge, IsMovedReference}
use Rattle.cargo_lock_merge_core.specs.Merge.{OfChecksum, OfPackage}
use Rattle.cargo_lock_merge_core.specs.Merge.{OfReplacement, Triple}
use Rattle.cargo_lock_merge_core.specs.Placed.{HasAt, HasOneAtEach, PlacedData, key}
use Rattle.cargo_lock_merge_core.specs.Places.{Place}
use Rattle.cargo_lock_merge_core.specs.Renaming.{IsOneToOne, rename_all, rename_triple}

-- A merge by numbers of places is a merge by the places, where no two places have one number.
abbrev pub NumbersOfPlaces : Type 0
NumbersOfPlaces = (f : ℕ → Place) (s : Triple ℕ) (m : List (PlacedData ℕ)) → IsOneToOne s f
    → IsMerge s m → IsMerge (rename_triple f s) (rename_all f m)

-- the sides exchanged
abbrev pub exchange : Triple Place → Triple Place
exchange s = record { base = s.base; ours = s.theirs; theirs = s.ours }

-- the sides of a merge may be exchanged
abbrev pub MergeIsSymmetric : Type 0
MergeIsSymmetric = (s : Triple Place) (m : List (PlacedData Place)) → IsMerge s m
    → IsMerge (exchange s) m

-- one of the two sides has a package with the key of x at its place
abbrev pub IsOfASide : Triple Place → PlacedData Place → Type 0
IsOfASide s x = ((y : PlacedData Place) × HasAt s.ours x.place y × (key y ≡ key x))
    ⊎ ((y : PlacedData Place) × HasAt s.theirs x.place y × (key y ≡ key x))

-- each merged package is, by identity, that of a side at its place
abbrev pub PackagesAreOfSides : Type 0
PackagesAreOfSides = (s : Triple Place) (m : List (PlacedData Place)) (x : PlacedData Place)
    → IsMerge s m → Contains m x → IsOfASide s x

-- one of the two sides has the dependency d at the place of x
abbrev pub DependsInASide : Triple Place → PlacedData Place → Place → Type 0
DependsInASide s x d = ((y : PlacedData Place) × HasAt s.ours x.place y × Contains y.dependencies d)
    ⊎ ((y : PlacedData Place) × HasAt s.theirs x.place y × Contains y.dependencies d)

-- each merged dependency is that of a side's package at its place
abbrev pub DependenciesAreOfSides : Type 0
DependenciesAreOfSides = (s : Triple Place) (m : List (PlacedData Place)) (x : PlacedData Place)
    (d : Place) → IsMerge s m → Contains m x → Contains x.dependencies d → DependsInASide s x d

-- each merged dependency has its package
abbrev pub MergeIsClosed : Type 0
MergeIsClosed = (s : Triple Place) (m : List (PlacedData Place)) (x : PlacedData Place) (d : Place)
    → IsMerge s m → Contains m x → Contains x.dependencies d
    → (y : PlacedData Place) × HasAt m d y

-- each of the three lists has at most one package at each place
pub record HaveOneAtEach (s : Triple Place) : Type 0 where
  pub base : HasOneAtEach s.base
  pub ours : HasOneAtEach s.ours
  pub theirs : HasOneAtEach s.theirs

-- a merge has no conflict about a package, a checksum or a replacement
abbrev pub MergeHasNoConflict : Type 0
MergeHasNoConflict = (s : Triple Place) (m : List (PlacedData Place)) (p : Place)
    → HaveOneAtEach s → IsMerge s m → (¬ IsMatter s (OfPackage p))
    × (¬ IsMatter s (OfChecksum p)) × ¬ IsMatter s (OfReplacement p)

-- both sides have the package of one identity at the place of x
pub record HaveBoth (s : Triple Place) (x y z : PlacedData Place) : Type 0 where
  pub ours : HasAt s.ours x.place y
  pub theirs : HasAt s.theirs x.place z
  pub same : key y ≡ key z

-- a dependency stays that both sides have at a package that both have
abbrev pub BothStay : Type 0
BothStay = (s : Triple Place) (m : List (PlacedData Place)) (x y z : PlacedData Place) (d : Place)
    → HaveOneAtEach s → IsMerge s m → Contains m x → HaveBoth s x y z
    → Contains y.dependencies d → Contains z.dependencies d → Contains x.dependencies d

-- a dependency is gone that the base has, and that one side has not at a package that both have
abbrev pub TakenAwayIsGone : Type 0
TakenAwayIsGone = (s : Triple Place) (m : List (PlacedData Place)) (w x y z : PlacedData Place)
    (d : Place) → HaveOneAtEach s → IsMerge s m → Contains m x → HaveBoth s x y z
    → HasAt s.base x.place w → Contains w.dependencies d
    → (¬ Contains y.dependencies d) ⊎ (¬ Contains z.dependencies d) → ¬ Contains x.dependencies d

-- the sides of a conflict may be exchanged
abbrev pub ConflictsAreSymmetric : Type 0
ConflictsAreSymmetric = (s : Triple Place) (c : MatterData Place) → IsMatter s c
    → IsMatter (exchange s) c

-- the sides of a moved reference may be exchanged
abbrev pub MovedReferencesAreSymmetric : Type 0
MovedReferencesAreSymmetric = (s : Triple Place) (m : List (PlacedData Place))
    (x y : PlacedData Place) → IsMovedReference s m x y → IsMovedReference (exchange s) m x y
