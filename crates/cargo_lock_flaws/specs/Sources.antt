-- Sources of packages that may mislead a reader.
use Rattle.std.specs.Prelude.{◌≡◌, ◌⊎◌, ℕ, true, false, List, codes, map, Some}
use Rattle.std.specs.Char.{to_ascii_lowercase}
use Rattle.std.specs.Str.Iter.{HasSubslice}
use Rattle.percent_encoding.specs.Percent.{percent_decode}
use Rattle.url.specs.Parts.{has_credentials, serialize}
use Rattle.cargo_lock_parts.specs.Identity.{PackageData}
use Rattle.cargo_lock_parts.specs.Source.{Source}
use Rattle.cargo_lock_parts.specs.SourceShown.{is_default_registry}
use Rattle.cargo_lock_order.specs.Canonical.{is_canonically_crates_io}
use Rattle.cargo_lock_graph.specs.Targets.{HoldsOf}

-- the text has the name of one of the two indexes of crates.io in it, in any case
abbrev pub NamesIndex : List ℕ → Type 0
NamesIndex text = HasSubslice (map to_ascii_lowercase text) (codes "crates.io-index")
    ⊎ HasSubslice (map to_ascii_lowercase text) (codes "index.crates.io")

-- the source looks like crates.io by its URL, unchanged or with its escapes decoded, and Cargo takes
-- it for another one
pub record IsLookAlike (source : Source) : Type 0 where
  pub named : NamesIndex (serialize source.url) ⊎ NamesIndex (percent_decode (serialize source.url))
  pub other : is_canonically_crates_io source ≡ false

-- Cargo takes the source for crates.io, and writes crates.io otherwise
pub record IsRespelt (source : Source) : Type 0 where
  pub taken : is_canonically_crates_io source ≡ true
  pub other : is_default_registry source ≡ false

-- the URL has a user name or a password
abbrev pub HasUserInfo : Source → Type 0
HasUserInfo source = has_credentials source.url ≡ true

-- P holds of the package's source
abbrev pub IsFrom : (Source → Type 0) → PackageData → Type 0
IsFrom P p = (source : Source) × (p.source ≡ Some source) × P source

-- P holds of the source of the package at the place
abbrev pub IsFromAt : (Source → Type 0) → List PackageData → ℕ → Type 0
IsFromAt P packages place = HoldsOf (IsFrom P) packages place
