-- Lockfiles by places: each package is at a place, and refers to others by their places. The places
-- are of any type: those of `Places` in a lockfile, and numbers in the program.
use Rattle.std.specs.Prelude.{◌≡◌, ◌≢◌, List, Option, Some, None, map, option_map}
use Rattle.std.specs.List.{AllPairs, Contains}
use Rattle.cargo_lock_parts.specs.Identity.{IdentityKey, PackageData, identity_key, identity_of}

-- a package at its place, with the places of its dependencies and of its replacement
pub record PlacedData (P : Type 0) : Type 0 where
  pub place : P
  pub content : PackageData
  pub dependencies : List P
  pub replacement : Option P

-- the packages without their places
abbrev pub contents_of : {P : Type 0} → List (PlacedData P) → List PackageData
contents_of = map (λ x. x.content)

-- what equality of identities compares of a package
abbrev pub key : {P : Type 0} → PlacedData P → IdentityKey
key x = identity_key (identity_of x.content)

-- the same of a package that may be absent
abbrev pub key_if : {P : Type 0} → Option (PlacedData P) → Option IdentityKey
key_if = option_map (λ x. key x)

-- at each place is at most one package
abbrev pub HasOneAtEach : {P : Type 0} → List (PlacedData P) → Type 0
HasOneAtEach xs = AllPairs (λ x y. x.place ≢ y.place) xs

-- the list has the package at the place
abbrev pub HasAt : {P : Type 0} → List (PlacedData P) → P → PlacedData P → Type 0
HasAt xs p x = Contains xs x × (x.place ≡ p)

-- what a list has at a place: a package or none
abbrev pub IsAt : {P : Type 0} → List (PlacedData P) → P → Option (PlacedData P) → Type 0
IsAt {P = P} xs p None = (x : PlacedData P) → ¬ HasAt xs p x
IsAt xs p (Some x) = HasAt xs p x

-- what the base and the two sides have at a place
pub record AreThreeAt {P : Type 0} (b o t : List (PlacedData P)) (p : P)
    (x y z : Option (PlacedData P)) : Type 0 where
  pub base : IsAt b p x
  pub ours : IsAt o p y
  pub theirs : IsAt t p z

-- a package without a source is at the place: a member of the workspace
abbrev pub HasMember : {P : Type 0} → List (PlacedData P) → P → Type 0
HasMember {P = P} xs p = (x : PlacedData P) × HasAt xs p x × (x.content.source ≡ None)
