-- The bill of materials of a lockfile, as callers get it.
use Rattle.std.specs.Prelude.{[], ℕ, Bool, false, List, Option, None}
use Rattle.cargo_lock_parts.specs.Identity.{Identity, PackageData}
use Rattle.cargo_lock_graph.specs.Targets.{IsFirstLost, links}
use Rattle.cargo_lock_bom.specs.declared.options.Listed.TheVariants.{All}
use Rattle.cargo_lock_bom.specs.declared.options.TheConstants.{VERSION}
use Rattle.cargo_lock_bom.specs.Options.{OptionsData}
use Rattle.cargo_lock_bom.specs.Printed.{IsPrintedBill, bill_packages, own_root}
use Rattle.cargo_lock_bom.specs.References.{IsRepeatedReference}
use Rattle.cargo_lock_encoding.specs.Lockfiles.{LockfileData}
use Rattle.cargo_lock_encoding.specs.Means.{TextMeans}
use Rattle.cargo_lock.specs.CargoChecksums.{with_cargo_checksums_in}
use Rattle.cargo_lock_c.specs.declared.refusal.Refusal.{Refusal}
use Rattle.cargo_lock_c.specs.declared.refusal.Refusal.TheVariants.{NoMemory, Unresolved, Repeated}

-- the options of a bill that the program writes without options: its own version, and the node of
-- the lockfile's separate root, if it has one
abbrev pub own_options : Option ℕ → OptionsData
own_options own = record {
  root = own;
  listed = All;
  tool_version = VERSION.now;
  timestamp = None;
  authors = [];
  properties = [];
  has_serial = false;
  licenses = [];
}

-- the packages in the bill of a lockfile, with the checksums that Cargo reads
abbrev pub packages_in_bill : LockfileData → List PackageData
packages_in_bill l = bill_packages (with_cargo_checksums_in l).packages l.root

-- these bytes are the bill of a lockfile as the program prints it without options, in one line if
-- it is compact
abbrev pub IsBillOfLockfile : LockfileData → Bool → List ℕ → Type 0
IsBillOfLockfile l compact bytes = IsPrintedBill (packages_in_bill l)
    (own_options (own_root (with_cargo_checksums_in l).packages l.root)) compact bytes

-- the text is that of a lockfile, and these bytes are its bill
abbrev pub IsBillOfText : List ℕ → Bool → List ℕ → Type 0
IsBillOfText text compact bytes = (l : LockfileData) × TextMeans text l
    × IsBillOfLockfile l compact bytes

-- no package matches some dependency, of which this is the first
abbrev pub LosesFirst : List PackageData → Identity → Type 0
LosesFirst packages d = IsFirstLost packages (links packages) d

-- the text is that of a lockfile, and in its bill no package matches some dependency
abbrev pub IsUnresolvedBill : List ℕ → Type 0
IsUnresolvedBill text = (l : LockfileData) × (d : Identity) × TextMeans text l
    × LosesFirst (packages_in_bill l) d

-- the text is that of a lockfile, and in its bill the same text would refer to two packages
abbrev pub IsRepeatedText : List ℕ → Type 0
IsRepeatedText text = (l : LockfileData) × (p : PackageData) × TextMeans text l
    × IsRepeatedReference (packages_in_bill l) p

-- why packages have no bill
abbrev pub LacksBill : List PackageData → Refusal → Type 0
LacksBill packages NoMemory = Unit {0}
LacksBill packages Unresolved = (d : Identity) × LosesFirst packages d
LacksBill packages Repeated = (p : PackageData) × IsRepeatedReference packages p
LacksBill packages other = ⊥
