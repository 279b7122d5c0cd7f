-- The lines of packages, by their places and by the packages themselves.
use Rattle.std.specs.Prelude.{◌≡◌, ℕ, List, Option, None, Some, if◌then◌else◌, map, slice_get}
use Rattle.std.specs.Prelude.{unwrap_or}
use Rattle.std.specs.Option.{option_and_then}
use Rattle.cargo_lock_index.specs.Near.{first_place, is_only}
use Rattle.cargo_lock_parts.specs.Identity.{PackageData}
use Rattle.cargo_lock_parts.specs.PartialIdentity.{PartialIdentity}

-- the packages of a lockfile, and the number of the line of each, where it is known
pub record LinesData : Type 0 where
  pub packages : List PackageData
  pub lines : List (Option ℕ)

-- the name, the version and the source of a package, as a key
abbrev pub package_key_of : PackageData → PartialIdentity
package_key_of p = record { name = p.name; version = Some p.version; source = p.source }

-- those of packages
abbrev pub package_keys_of : List PackageData → List PartialIdentity
package_keys_of = map package_key_of

-- the place of the only package with the name, the version and the source of this one: there is none
-- where several packages have them
abbrev pub only_place : List PackageData → PackageData → Option ℕ
only_place packages p = if is_only (package_key_of p) (package_keys_of packages)
    then first_place (package_key_of p) (package_keys_of packages) else None

-- the number of the line of the package at a place, where it is known
abbrev pub line_number_at : List (Option ℕ) → ℕ → Option ℕ
line_number_at lines k = unwrap_or (slice_get lines k) None

-- the number of the line of a package, where it is known
abbrev pub line_of_package : LinesData → PackageData → Option ℕ
line_of_package d p = option_and_then (line_number_at d.lines) (only_place d.packages p)

-- the same, if there is a package
abbrev pub line_of_some : LinesData → Option PackageData → Option ℕ
line_of_some d = option_and_then (line_of_package d)

-- ---- law

-- the number that a package of the lockfile has is that of its own place
abbrev pub LinesAreOwn : Type 0
LinesAreOwn = (d : LinesData) (k : ℕ) (p : PackageData) (n : ℕ) → slice_get d.packages k ≡ Some p
    → line_of_package d p ≡ Some n → line_number_at d.lines k ≡ Some n
