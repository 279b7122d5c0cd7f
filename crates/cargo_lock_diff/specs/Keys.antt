-- What packages that are wholly alike have in common.
use Rattle.std.specs.Prelude.{ℕ, List, Option, option_map}
use Rattle.semver.specs.Parse.{Parts}
use Rattle.cargo_lock_parts.specs.Identity.{Identity, PackageData, identity_of}
use Rattle.cargo_lock_parts.specs.Source.{Source}
use Rattle.cargo_lock_parts.specs.SourceKey.{Key, key_of}
use Rattle.cargo_lock_diff.specs.Place.{other_source}

-- the place of a source: none for the registry of crates.io, and otherwise its key
abbrev pub place_of_source : Source → Option Key
place_of_source s = option_map key_of (other_source s)

-- a name, a version and a place
pub record PlaceKey : Type 0 where
  pub name : List ℕ
  pub version : Parts
  pub place : Option (Option Key)

-- the name, the version and the place of an identity
abbrev pub place_key : Identity → PlaceKey
place_key d =
    record { name = d.name; version = d.version; place = option_map place_of_source d.source }

-- a name, a version and a place, a checksum and a replacement
pub record WholeKey : Type 0 where
  pub at : PlaceKey
  pub checksum : Option (List ℕ)
  pub replace : Option PlaceKey

-- the whole key of a package
abbrev pub whole_key : PackageData → WholeKey
whole_key p = record {
  at = place_key (identity_of p);
  checksum = p.checksum;
  replace = option_map place_key p.replace;
}
