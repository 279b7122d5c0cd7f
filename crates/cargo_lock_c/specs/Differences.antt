-- What differs between two lockfiles, as callers get it: a line each.
use Rattle.std.specs.Prelude.{◌≡◌, ◌≤◌, ℕ, Bool, List, IsUtf8}
use Rattle.cargo_lock_diff.specs.Change.{changes_text, all_changes_of}
use Rattle.cargo_lock_diff.specs.Difference.{DifferenceData, IsDifference}
use Rattle.cargo_lock_encoding.specs.Lockfiles.{LockfileData}
use Rattle.cargo_lock_encoding.specs.Means.{TextMeans}
use Rattle.cargo_lock_parts.specs.Identity.{PackageData}
use Rattle.cargo_lock.specs.CargoChecksums.{with_cargo_checksums_in}
use Rattle.cargo_lock_c.specs.Texts.{MeansNothing}

-- the lines of what differs between two lists of packages, with dependencies or without
abbrev pub AreLinesBetweenPackages : List PackageData → List PackageData → Bool → List ℕ → Type 0
AreLinesBetweenPackages before after dependencies bytes = (d : DifferenceData)
    × IsDifference before after d × (bytes ≡ changes_text (all_changes_of dependencies d))

-- the lines of what differs between the packages of two lockfiles, with the checksums that Cargo
-- reads
abbrev pub AreLinesBetween : LockfileData → LockfileData → Bool → List ℕ → Type 0
AreLinesBetween before after dependencies bytes = AreLinesBetweenPackages
    (with_cargo_checksums_in before).packages (with_cargo_checksums_in after).packages
    dependencies bytes

-- both texts are those of lockfiles, and these bytes are the lines of what differs between them
abbrev pub IsDifferenceText : List ℕ → List ℕ → Bool → List ℕ → Type 0
IsDifferenceText old new dependencies bytes = (before after : LockfileData)
    × TextMeans old before × TextMeans new after × AreLinesBetween before after dependencies bytes

-- status 10 comes only if the new text is not that of a lockfile, and status 11 only if it is not
-- UTF-8
pub record RefusesNewText (new : List ℕ) (status : ℕ) : Type 0 where
  pub no_lockfile : status ≡ 10 → MeansNothing new
  pub no_text : status ≡ 11 → ¬ IsUtf8 new

-- both come only if the old text is that of a lockfile
abbrev pub ReadsOldText : List ℕ → ℕ → Type 0
ReadsOldText old status = 10 ≤ status → (before : LockfileData) × TextMeans old before
