-- What `verify` prints, and its status.
use Rattle.std.specs.Prelude.{◌≡◌, ◌≢◌, ℕ, Bool, List, [], ◌∷◌, Option, None, Some, codes, false}
use Rattle.std.specs.Prelude.{if◌then◌else◌, length, map, true}
use Rattle.clap.specs.Matches.{first_value}
use Rattle.clap.specs.declared.parser.matches.Found.{Found}
use Rattle.cargo_lock_encoding.specs.Lockfiles.{LockfileData}
use Rattle.cargo_lock_verify.specs.ArchivesDocument.{archives_json}
use Rattle.cargo_lock_verify.specs.FoldersDocument.{folders_json}
use Rattle.cargo_lock_parts.specs.Identity.{PackageData}
use Rattle.cargo_lock_verify.specs.Archives.{ArchiveFindingData, ArchiveSubjectData, CacheData}
use Rattle.cargo_lock_verify.specs.Archives.{archive_counts, archive_findings, archives_of_others}
use Rattle.cargo_lock_verify.specs.Class.{is_clean}
use Rattle.cargo_lock_verify.specs.declared.class.Counts.{Counts}
use Rattle.cargo_lock_verify.specs.declared.entry.Others.{Others}
use Rattle.cargo_lock_verify.specs.declared.entry.Others.TheVariants as others
use Rattle.cargo_lock_verify.specs.Entries.{EntryData}
use Rattle.cargo_lock_verify.specs.Report.{archive_report_text, reported}
use Rattle.cargo_lock_verify.specs.Reporting.{reported_archives, reported_folders}
use Rattle.cargo_lock_verify.specs.Vendored.{FolderFindingData, VendoredData, folder_counts}
use Rattle.cargo_lock_verify.specs.VendorReport.{folder_report_text, vendor_findings}
use Rattle.cli_folder_commands.specs.Part.{PrintsPart, sure_archive_lines, sure_folder_lines}
use Rattle.cli_folder_commands.specs.Texts.{given_texts}
use Rattle.cli_input.specs.Json.{IsFlag}
use Rattle.cli_input.specs.Load.{MeansWithCargoChecksums}
use Rattle.cli_input.specs.Told.{IsReportPath, LockfileFound, PrintsFound, SubjectData}
use Rattle.cli_input.specs.Told.{found_in_lockfile}
use Rattle.cli_input.specs.Told.{subject_of_lockfile}
use Rattle.cli_support.specs.Input.{given_path_in}

-- the subjects are these packages, each once and in their order, each with some archives
abbrev pub AreSubjectsOf : List PackageData → List ArchiveSubjectData → Type 0
AreSubjectsOf packages subjects = map (λ s. s.content) subjects ≡ packages

-- what is found of archives, all of which are asked for or not, and how many packages are in each
-- class and archives are passed over
abbrev pub found_of_archives : SubjectData → Bool → List ArchiveFindingData → Counts → ℕ → LockfileFound
found_of_archives s all told counts others = found_in_lockfile s (archive_report_text told counts others)
    (λ file lines. archives_json file lines counts others told)
    (λ path lines. reported_archives all counts path lines told)

-- these are printed, with the status of these numbers
pub record PrintsFoundOfArchives (found : Found) (s : SubjectData) (all : Bool)
    (told : List ArchiveFindingData) (counts : Counts) (others : ℕ) (old new : Option (List ℕ))
    (failure success : Type 0) : Type 0 where
  pub printed : PrintsFound found (found_of_archives s all told counts others ∷ []) old new
  pub some : is_clean all counts ≡ false → failure
  pub none : is_clean all counts ≡ true → success

-- the subjects, and the hosts of mirrors that the arguments have
abbrev pub cache_by : Found → List ArchiveSubjectData → CacheData
cache_by found subjects =
    record { subjects = subjects; mirrors = given_texts found (codes "mirror") }

-- what is found in this cache is printed, packages of a registry without a checksum if the arguments
-- ask for all
abbrev pub PrintsReportOf : Found → SubjectData → CacheData → Option (List ℕ) → Option (List ℕ)
    → Type 0 → Type 0 → Type 0
PrintsReportOf found s cache old new failure success = (all : Bool)
    × IsFlag found (codes "all") all
    × PrintsFoundOfArchives found s all (reported all (archive_findings cache)) (archive_counts cache)
    (length (archives_of_others cache)) old new failure success

-- what is found of these subjects is printed, by the mirrors that the arguments have
abbrev pub PrintsReport : Found → SubjectData → List ArchiveSubjectData → Option (List ℕ)
    → Option (List ℕ) → Type 0 → Type 0 → Type 0
PrintsReport found s subjects = PrintsReportOf found s (cache_by found subjects)

-- the same of the packages of a lockfile, each with some archives
abbrev pub PrintsArchivesOf : Found → SubjectData → Option (List ℕ) → Option (List ℕ)
    → Type 0 → Type 0 → Type 0
PrintsArchivesOf found s old new failure success = (subjects : List ArchiveSubjectData)
    × AreSubjectsOf s.packages subjects × PrintsReport found s subjects old new failure success

-- these are the packages, each once and in their order, each with some folders
abbrev pub AreVendoredOf : List PackageData → List VendoredData → Type 0
AreVendoredOf packages vendored = map (λ v. v.content) vendored ≡ packages

-- what is found of folders, and how many packages are in each class
abbrev pub found_of_folders : SubjectData → List FolderFindingData → Counts → LockfileFound
found_of_folders s told counts = found_in_lockfile s (folder_report_text told counts)
    (λ file lines. folders_json file lines counts told)
    (λ path lines. reported_folders path lines told)

-- these are printed, with the status of these findings
pub record PrintsFoundOfFolders (found : Found) (s : SubjectData) (told : List FolderFindingData)
    (counts : Counts) (old new : Option (List ℕ)) (failure success : Type 0) : Type 0 where
  pub printed : PrintsFound found (found_of_folders s told counts ∷ []) old new
  pub some : told ≢ [] → failure
  pub none : told ≡ [] → success

-- what is said of folders of other packages, by whether the arguments ask to pass over them
abbrev pub others_of : Bool → Others
others_of asked = if asked then others.PassedOver else others.Reported

-- what is found of these packages and of these entries is reported, other packages unless the
-- arguments ask to pass over them
abbrev pub PrintsVendorReport : Found → SubjectData → List VendoredData → List EntryData
    → Option (List ℕ) → Option (List ℕ) → Type 0 → Type 0 → Type 0
PrintsVendorReport found s vendored entries old new failure success = (asked : Bool)
    × IsFlag found (codes "others") asked
    × PrintsFoundOfFolders found s (vendor_findings (others_of asked) vendored entries)
    (folder_counts vendored) old new failure success

-- the same of the packages of a lockfile, each with some folders, and of some entries
abbrev pub PrintsFoldersOf : Found → SubjectData → Option (List ℕ) → Option (List ℕ)
    → Type 0 → Type 0 → Type 0
PrintsFoldersOf found s old new failure success = (vendored : List VendoredData)
    × ((entries : List EntryData) × AreVendoredOf s.packages vendored
    × PrintsVendorReport found s vendored entries old new failure success)

-- ---- where some were not read

-- the lines of what is found of these archives are printed, in the form that the arguments ask for
abbrev pub PrintsPartOfArchives : Found → List ArchiveSubjectData → Option (List ℕ)
    → Option (List ℕ) → Type 0
PrintsPartOfArchives found subjects old new = (all : Bool) × IsFlag found (codes "all") all
    × PrintsPart found
    (sure_archive_lines (reported all (archive_findings (cache_by found subjects)))) old new

-- the same of folders and entries
abbrev pub PrintsPartOfFolders : Found → List VendoredData → List EntryData → Option (List ℕ)
    → Option (List ℕ) → Type 0
PrintsPartOfFolders found vendored entries old new = (asked : Bool)
    × IsFlag found (codes "others") asked
    × PrintsPart found
    (sure_folder_lines (vendor_findings (others_of asked) vendored entries)) old new

-- ---- by the arguments

-- what is found of the packages of a lockfile is printed: of their folders, if the arguments have a
-- vendor folder, and otherwise of their archives
abbrev pub PrintsVerifiedBy : Option (List ℕ) → Found → SubjectData
    → Option (List ℕ) → Option (List ℕ) → Type 0 → Type 0 → Type 0
PrintsVerifiedBy None = PrintsArchivesOf
PrintsVerifiedBy (Some folder) = PrintsFoldersOf

-- the same by the arguments
abbrev pub PrintsVerifiedOf : Found → SubjectData → Option (List ℕ) → Option (List ℕ)
    → Type 0 → Type 0 → Type 0
PrintsVerifiedOf found = PrintsVerifiedBy (first_value found (codes "vendor")) found

-- the same of a lockfile that some text means, with the checksums that Cargo reads
abbrev pub PrintsVerified : Found → Option (List ℕ) → Option (List ℕ) → Type 0 → Type 0 → Type 0
PrintsVerified found old new failure success = (text path : List ℕ) × (l : LockfileData)
    × MeansWithCargoChecksums text l
    × IsReportPath found (given_path_in found (codes "file")) path
    × PrintsVerifiedOf found
    (subject_of_lockfile (given_path_in found (codes "file")) path text l) old new failure success
