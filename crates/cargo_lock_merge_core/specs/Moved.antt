-- The references that a merge moved, as the program has them.
use Rattle.std.specs.Prelude.{◌≡◌, ◌≢◌, ◌<◌, ◌⊎◌, ℕ, List, [], All, Option, Some, None, map}
use Rattle.std.specs.List.{AllPairs, Contains}
use Rattle.std.specs.List.Sorted.{IsStrictlyIncreasing}
use Rattle.cargo_lock_parts.specs.Identity.{PackageData, identity_key, identity_of}
use Rattle.cargo_lock_merge_core.specs.declared.merged.Merged.{Merged}
use Rattle.cargo_lock_merge_core.specs.declared.moved.Moved.{Moved}
use Rattle.cargo_lock_merge_core.specs.declared.moved.Reference.{Reference}
use Rattle.cargo_lock_merge_core.specs.Merge.{IsMovedReference, Triple}
use Rattle.cargo_lock_merge_core.specs.Merged.{merged_data}
use Rattle.cargo_lock_merge_core.specs.Numbered.{IsInOrder}
use Rattle.cargo_lock_merge_core.specs.Placed.{IsAt, PlacedData}

-- the two sides
abbrev pub sides : List (PlacedData ℕ) → List (PlacedData ℕ) → Triple ℕ
sides o t = record { base = []; ours = o; theirs = t }

-- the reference between two packages that may be absent, if the first depends on the place q of the
-- other
abbrev pub IsReferenceOf : Option (PlacedData ℕ) → Option (PlacedData ℕ) → ℕ → Option Reference
    → Type 0
IsReferenceOf (Some x) (Some y) q None = ¬ Contains x.dependencies q
IsReferenceOf x y q None = Unit {0}
IsReferenceOf (Some x) (Some y) q (Some r) = Contains x.dependencies q
    × (r.from.now ≡ x.content) × (r.to.now ≡ y.content)
IsReferenceOf x y q (Some r) = ⊥

-- the reference that a list has between the places p and q, if it has one
abbrev pub IsReferenceAt : List (PlacedData ℕ) → ℕ → ℕ → Option Reference → Type 0
IsReferenceAt xs p q r = (x : Option (PlacedData ℕ)) × (y : Option (PlacedData ℕ))
    × IsAt xs p x × IsAt xs q y × IsReferenceOf x y q r

-- the moved reference of the merged package x to the merged package y
pub record IsMoved (o t m : List (PlacedData ℕ)) (x y : PlacedData ℕ) (r : Moved) : Type 0 where
  pub moved : IsMovedReference (sides o t) m x y
  pub from : r.from ≡ x.place
  pub to : r.to ≡ y.place
  pub from_same : identity_of r.merged.from.now ≡ identity_of x.content
  pub to_same : identity_of r.merged.to.now ≡ identity_of y.content
  pub ours : IsReferenceAt o x.place y.place r.ours
  pub theirs : IsReferenceAt t x.place y.place r.theirs

-- the places of a moved reference
abbrev pub places_of_moved : Moved → ℕ × ℕ
places_of_moved r = (r.from, r.to)

-- one pair of places is before another
abbrev pub IsPairBefore : ℕ × ℕ → ℕ × ℕ → Type 0
IsPairBefore a b = (a.0 < b.0) ⊎ ((a.0 ≡ b.0) × (a.1 < b.1))

-- these are the moved references of a merge m of the sides o and t, in the order of the places
pub record AreMoved (o t m : List (PlacedData ℕ)) (all : List Moved) : Type 0 where
  pub each : All (λ r. (x : PlacedData ℕ) × (y : PlacedData ℕ) × IsMoved o t m x y r) all
  pub all_there : (x y : PlacedData ℕ) → IsMovedReference (sides o t) m x y
      → Contains (map places_of_moved all) (x.place, y.place)
  pub order : AllPairs IsPairBefore (map places_of_moved all)

-- ---- as the program finds them

-- packages in the order of their places, each with its dependencies in order
pub record AreListedPackages (xs : List (PlacedData ℕ)) : Type 0 where
  pub order : IsInOrder xs
  pub each : All (λ x. IsStrictlyIncreasing x.dependencies) xs

-- a side's reference is the merged one: between the same identities, or from a member of the
-- workspace
abbrev pub IsSameReference : Reference → Option Reference → Type 0
IsSameReference r None = ⊥
IsSameReference r (Some s) = ((r.from.now.source ≡ None)
    ⊎ (identity_key (identity_of s.from.now) ≡ identity_key (identity_of r.from.now)))
    × (identity_key (identity_of s.to.now) ≡ identity_key (identity_of r.to.now))

-- the merged reference is to a package with a source, and is neither of these, those of the sides
abbrev pub IsMovedBeside : Reference → Option Reference → Option Reference → Type 0
IsMovedBeside r so st = (r.to.now.source ≢ None) × (¬ IsSameReference r so) × ¬ IsSameReference r st

-- the package is that of a merged one at the place
abbrev pub IsPackageAt : List Merged → ℕ → PackageData → Type 0
IsPackageAt ms n p = (m : Merged) × Contains ms m × (m.place ≡ n) × (p ≡ m.«package».now)

-- the reference of the merged package x to that at the place q is moved
abbrev pub IsMovedTo : List (PlacedData ℕ) → List (PlacedData ℕ) → List (PlacedData ℕ)
    → PlacedData ℕ → ℕ → Type 0
IsMovedTo o t m x q = (y : PlacedData ℕ) × (y.place ≡ q) × IsMovedReference (sides o t) m x y

-- the same, as found
abbrev pub IsMovedFrom : List (PlacedData ℕ) → List (PlacedData ℕ) → List (PlacedData ℕ)
    → PlacedData ℕ → ℕ → Moved → Type 0
IsMovedFrom o t m x q r = (y : PlacedData ℕ) × (y.place ≡ q) × IsMoved o t m x y r

-- these are the moved references of the merged package one
pub record AreMovedFrom (o t : List (PlacedData ℕ)) (ms : List Merged) (one : Merged)
    (all : List Moved) : Type 0 where
  pub each : All (λ r. (q : ℕ) × IsMovedFrom o t (map merged_data ms) (merged_data one) q r) all
  pub all_there : (q : ℕ) → IsMovedTo o t (map merged_data ms) (merged_data one) q
      → Contains (map (λ r. r.to) all) q
  pub order : IsStrictlyIncreasing (map (λ r. r.to) all)
