-- What contracts see of dependencies and packages: texts are their bytes, a version is its numbers
-- and texts, and a source is as `Source` has it.
use Rattle.std.specs.Prelude.{◌≡◌, ℕ, List, [], ◌++◌, codes, map, Option, Some, None, option_map}
use Rattle.std.specs.Prelude.{false}
use Rattle.semver.specs.Parse.{Parts}
use Rattle.semver.specs.Identifiers.{parts_text}
use Rattle.cargo_lock_parts.specs.Source.{Source}
use Rattle.cargo_lock_parts.specs.SourceKey.{Key, key_of}
use Rattle.cargo_lock_parts.specs.SourceText.{text_of}

-- a name, a version and an optional source: what a dependency is, and what distinguishes a package
-- from others
pub record Identity : Type 0 where
  pub name : List ℕ
  pub version : Parts
  pub source : Option Source

-- a package of a lockfile: its identity, the bytes of its checksum, the identities that it depends
-- on, and the identity that replaces it
pub record PackageData : Type 0 where
  pub name : List ℕ
  pub version : Parts
  pub source : Option Source
  pub checksum : Option (List ℕ)
  pub dependencies : List Identity
  pub replace : Option Identity

-- the name, the version and the source of a package
abbrev pub identity_of : PackageData → Identity
identity_of p = record { name = p.name; version = p.version; source = p.source }

-- the dependency has the package's name and version
pub record HasNameAndVersion (d : Identity) (p : PackageData) : Type 0 where
  pub name : d.name ≡ p.name
  pub version : d.version ≡ p.version

-- ---- keys: equality compares sources by their keys, and all else unchanged

-- what equality of identities compares: the source by its key, and all else unchanged
pub record IdentityKey : Type 0 where
  pub name : List ℕ
  pub version : Parts
  pub source : Option Key

-- what equality of packages compares
pub record PackageKey : Type 0 where
  pub identity : IdentityKey
  pub checksum : Option (List ℕ)
  pub dependencies : List IdentityKey
  pub replace : Option IdentityKey

-- the key of an identity
abbrev pub identity_key : Identity → IdentityKey
identity_key i = record { name = i.name; version = i.version; source = option_map key_of i.source }

-- the key of a package
abbrev pub package_key : PackageData → PackageKey
package_key p = record {
  identity = identity_key (identity_of p);
  checksum = p.checksum;
  dependencies = map identity_key p.dependencies;
  replace = option_map identity_key p.replace;
}

-- ---- text

-- the source in round brackets, plain
abbrev pub source_part : Option Source → List ℕ
source_part None = []
source_part (Some source) = codes " (" ++ text_of false source ++ codes ")"

-- the text that `Display` writes of a dependency
abbrev pub dependency_text : Identity → List ℕ
dependency_text d = d.name ++ codes " " ++ parts_text d.version ++ source_part d.source
