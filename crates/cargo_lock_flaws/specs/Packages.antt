-- What is wrong with packages of a list.
use Rattle.std.specs.Prelude.{◌≡◌, ◌<◌, ℕ, suc, true, List, Option, Some, None, option_map, IsSome}
use Rattle.std.specs.declared.cmp.Ordering.TheVariants.{Greater}
use Rattle.cargo_lock_parts.specs.Identity.{Identity, PackageData, identity_of}
use Rattle.cargo_lock_parts.specs.Source.{Source, is_remote_registry}
use Rattle.cargo_lock_parts.specs.SourceKey.{key_of}
use Rattle.cargo_lock_graph.specs.Targets.{HasIdentity, HoldsOf}
use Rattle.cargo_lock_order.specs.Order.{package_order}

-- an earlier package has the same identity as the package at the place
abbrev pub IsTwice : List PackageData → ℕ → Type 0
IsTwice packages place = HoldsOf
    (λ p. (j : ℕ) × (j < place) × HoldsOf (HasIdentity (identity_of p)) packages j) packages place

-- the package is from this source, by its key, and has a checksum
pub record HasChecksumFrom (source : Source) (p : PackageData) : Type 0 where
  pub from : option_map key_of p.source ≡ Some (key_of source)
  pub checksum : IsSome p.checksum

-- the package has no checksum and no replacement, and is from a registry on the network of which
-- some package has a checksum
pub record LacksChecksum (packages : List PackageData) (p : PackageData) : Type 0 where
  pub checksum : p.checksum ≡ None
  pub replace : p.replace ≡ None
  pub source : Source
  pub from : p.source ≡ Some source
  pub remote : is_remote_registry source.kind ≡ true
  pub other : (j : ℕ) × HoldsOf (HasChecksumFrom source) packages j

-- the package at the place lacks a checksum
abbrev pub IsWithoutChecksum : List PackageData → ℕ → Type 0
IsWithoutChecksum packages place = HoldsOf (LacksChecksum packages) packages place

-- the package at the place comes after the one at the next place in Cargo's order
abbrev pub IsMisplaced : List PackageData → ℕ → Type 0
IsMisplaced packages place = HoldsOf
    (λ p. HoldsOf (λ next. package_order p next ≡ Greater) packages (suc place)) packages place

-- this source, if there is no replacement
abbrev pub source_unless : Option Identity → Option Source → Option Source
source_unless None source = source
source_unless (Some other) source = None

-- the source of a package without a replacement
abbrev pub source_unless_replaced : PackageData → Option Source
source_unless_replaced p = source_unless p.replace p.source

-- the package is from this source, by its key, and has no replacement
abbrev pub IsOwnFrom : Source → PackageData → Type 0
IsOwnFrom source p = option_map key_of (source_unless_replaced p) ≡ Some (key_of source)

-- the package is the first of its registry, which is on the network and of which no package has a
-- checksum; packages with a replacement do not count
pub record IsFirstUnchecked (packages : List PackageData) (place : ℕ) (p : PackageData) : Type 0
  where
    pub source : Source
    pub from : source_unless_replaced p ≡ Some source
    pub remote : is_remote_registry source.kind ≡ true
    pub none : (j : ℕ) → ¬ HoldsOf (HasChecksumFrom source) packages j
    pub first : (j : ℕ) → j < place → ¬ HoldsOf (IsOwnFrom source) packages j

-- the package at the place is the first unchecked one of its registry
abbrev pub IsUnchecked : List PackageData → ℕ → Type 0
IsUnchecked packages place = HoldsOf (IsFirstUnchecked packages place) packages place
