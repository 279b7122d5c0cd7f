-- What `bom` leaves in the writer for standard output.
use Rattle.std.specs.Prelude.{◌≡◌, ◌==◌, ℕ, Bool, List, [], ◌∷◌, Option, None, Some, IsSome, codes}
use Rattle.std.specs.Prelude.{length, true}
use Rattle.std.specs.List.{AllZip, after_first, before_first, list_any}
use Rattle.clap.specs.Matches.{first_value}
use Rattle.clap.specs.declared.parser.matches.Found.{Found}
use Rattle.cargo_lock_parts.specs.Identity.{PackageData}
use Rattle.cargo_lock_bom.specs.declared.options.Listed.{Listed}
use Rattle.cargo_lock_bom.specs.declared.options.Listed.TheVariants.{All, Reached}
use Rattle.cargo_lock_bom.specs.Options.{OptionsData}
use Rattle.cargo_lock_bom.specs.Printed.{IsPrintedBill, bill_packages, own_root}
use Rattle.cargo_lock_query.specs.Spec.{SpecFits}
use Rattle.cargo_lock_encoding.specs.Lockfiles.{LockfileData}
use Rattle.cargo_lock.specs.CargoChecksums.{with_cargo_checksums_in}
use Rattle.cargo_lock.specs.Loads.{IsMeant}
use Rattle.cli_support.specs.Destination.{TakesOutput}
use Rattle.cli_folder_commands.specs.BillLicenses.{AreLicensesBy}
use Rattle.cli_folder_commands.specs.Texts.{given_texts}
use Rattle.cli_input.specs.Json.{IsAsked, IsFlag, IsUnasked}
use Rattle.lists.specs.Places.{IsPlaces}

-- there is a time exactly if the arguments ask for one
pub record IsTimeAsked (found : Found) (time : Option ℕ) : Type 0 where
  pub asked : IsAsked found (codes "timestamp") → IsSome time
  pub unasked : IsUnasked found (codes "timestamp") → time ≡ None

-- The root of a bill, and which packages the bill lists: the only package that the specification
-- fits, and what is reached from it, or without one the own root of the lockfile, if it has one, and
-- each package.
abbrev pub IsRootAsked : Option (List ℕ) → List PackageData → Option ℕ → Option ℕ → Listed → Type 0
IsRootAsked None packages own root listed = (root ≡ own) × (listed ≡ All)
IsRootAsked (Some spec) packages own root listed = (node : ℕ) × (root ≡ Some node)
    × (listed ≡ Reached) × IsPlaces (SpecFits spec packages) (length packages) (node ∷ [])

-- the text names a property: its name, `=`, which is byte 61, and its value
abbrev pub IsPropertyBy : List ℕ → List ℕ × List ℕ → Type 0
IsPropertyBy text p = (list_any (λ b. b == 61) text ≡ true)
    × (p.0 ≡ before_first (λ b. b == 61) text) × (p.1 ≡ after_first (λ b. b == 61) text)

-- The options that the arguments give for the bill of packages: the root and what is listed, as they
-- ask for it, the authors and the properties are theirs, the time is this one, if there is one, there
-- is a serial number exactly if they ask for one, and there are licence expressions of the packages
-- only if they have a folder of manifests.
pub record IsSaid (found : Found) (time : Option ℕ) (packages : List PackageData)
    (own : Option ℕ) (o : OptionsData) : Type 0 where
  pub root : IsRootAsked (first_value found (codes "root")) packages own o.root o.listed
  pub authors : o.authors ≡ given_texts found (codes "author")
  pub properties : AllZip IsPropertyBy (given_texts found (codes "property")) o.properties
  pub timestamp : o.timestamp ≡ time
  pub serial : IsFlag found (codes "serial") o.has_serial
  pub licenses : AreLicensesBy (first_value found (codes "manifests")) packages o.licenses

-- the line is the bill of some packages, compact exactly if the arguments ask for that
abbrev pub IsAskedLine : Found → List PackageData → OptionsData → List ℕ → Type 0
IsAskedLine found packages o line = (compact : Bool) × IsFlag found (codes "compact") compact
    × IsPrintedBill packages o compact line

-- the line is that of the packages of a bill, with this time, and with this own root of the
-- lockfile, if there are these
abbrev pub IsBillWith : Found → Option ℕ → List PackageData → Option ℕ → List ℕ → Type 0
IsBillWith found time packages own line = (o : OptionsData) × IsSaid found time packages own o
    × IsAskedLine found packages o line

-- the line is that of the packages of a lockfile, with this time, if there is one
abbrev pub IsAskedBillOf : Found → Option ℕ → LockfileData → List ℕ → Type 0
IsAskedBillOf found time l line = IsBillWith found time (bill_packages l.packages l.root)
    (own_root l.packages l.root) line

-- the line is that of a lockfile with the checksums that Cargo reads
abbrev pub IsAskedBill : Found → Option ℕ → LockfileData → List ℕ → Type 0
IsAskedBill found time l line = IsAskedBillOf found time (with_cargo_checksums_in l) line

-- the line is that of a lockfile that some text means, with a time if the arguments ask for one
abbrev pub PrintsBill : Found → Option (List ℕ) → Option (List ℕ) → Type 0
PrintsBill found old new = (l : LockfileData) × (time : Option ℕ) × (line : List ℕ) × IsMeant l
    × IsTimeAsked found time × IsAskedBill found time l line
    × TakesOutput (first_value found (codes "output")) line old new
