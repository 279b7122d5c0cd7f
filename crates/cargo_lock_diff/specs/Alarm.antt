-- Which new packages are alarms: their archive is not the one whose checksum the old lockfile has,
-- or they have no checksum any more.
use Rattle.std.specs.Prelude.{◌≡◌, ◌&&◌, ◌||◌, ◌++◌, Bool, true, not, if◌then◌else◌, is_some, List}
use Rattle.std.specs.Prelude.{All, filter}
use Rattle.std.specs.List.{Contains, list_any}
use Rattle.cargo_lock_parts.specs.Identity.{PackageData}
use Rattle.cargo_lock_diff.specs.declared.likeness.Likeness.{Likeness}
use Rattle.cargo_lock_diff.specs.declared.likeness.Likeness.TheVariants.{Version, Place, Archive}
use Rattle.cargo_lock_diff.specs.Likeness.{is_alike}
use Rattle.cargo_lock_diff.specs.Matching.{seconds}
use Rattle.cargo_lock_diff.specs.Same.{have_one_checksum, have_one_place, have_one_version}

-- the package has a checksum
abbrev pub is_checksummed : PackageData → Bool
is_checksummed p = is_some p.checksum

-- some of these packages has a checksum, and is like p by this likeness
abbrev pub is_vouched : Likeness → List PackageData → PackageData → Bool
is_vouched likeness olds p = list_any (λ o. is_checksummed o && is_alike likeness p o) olds

-- A package with a checksum is suspect if an old one of its name and version has a checksum, and
-- none of those has this one. A package without a checksum is suspect if an old one of its name,
-- version and place has one.
abbrev pub is_suspect : List PackageData → PackageData → Bool
is_suspect olds p =
    if is_checksummed p then is_vouched Version olds p && not (is_vouched Archive olds p)
    else is_vouched Place olds p

-- the packages of a pair have the same version, the old one has a checksum, and the new one has a
-- different one, or none at the same place
abbrev pub is_altered : PackageData → PackageData → Bool
is_altered old new = have_one_version old new && (is_checksummed old
    && (if is_checksummed new then not (have_one_checksum old new) else have_one_place old new))

-- a pair is an alarm if its packages are altered, or its new one is suspect
abbrev pub is_alarm : List PackageData → PackageData × PackageData → Bool
is_alarm olds p = is_altered p.0 p.1 || is_suspect olds p.1

-- the old package has a checksum, and the new one's name and version
abbrev pub IsFounded : PackageData → PackageData → Type 0
IsFounded old new = (is_checksummed old ≡ true) × (is_alike Version old new ≡ true)

-- The alarms: each new package of a pair that is an alarm and each added one that is suspect, in
-- order, with one of the old packages, of its name and version, that has a checksum. If the
-- packages of a pair are altered, the pair itself is the alarm. Packages that are kept are no
-- alarms.
pub record AreAlarms (olds : List PackageData) (pairs : List (PackageData × PackageData))
    (added : List PackageData) (alarms : List (PackageData × PackageData)) : Type 0 where
  pub founded : All (λ a. IsFounded a.0 a.1) alarms
  pub among : All (λ a. Contains olds a.0) alarms
  pub own : All (λ p. is_altered p.0 p.1 ≡ true → Contains alarms p) pairs
  pub told : seconds alarms
      ≡ seconds (filter (is_alarm olds) pairs) ++ filter (is_suspect olds) added
