-- What is found of archives and of folders, as findings of reports.
use Rattle.std.specs.Prelude.{◌==◌, ◌||◌, ℕ, Bool, List, Some, map, true}
use Rattle.cargo_lock_location.specs.Lines.{LinesData}
use Rattle.cargo_lock_report.specs.declared.reported.Level.TheVariants.{Error}
use Rattle.cargo_lock_report.specs.Reported.{ReportedData, SpotData, level_of, reported_of}
use Rattle.cargo_lock_report.specs.Reported.{rule_of_kind}
use Rattle.cargo_lock_verify.specs.declared.class.Counts.{Counts}
use Rattle.cargo_lock_verify.specs.Archives.{ArchiveFindingData, Changed, Missing, NoChecksum}
use Rattle.cargo_lock_verify.specs.ArchivesDocument.{archive_finding_kind, archive_finding_line_in}
use Rattle.cargo_lock_verify.specs.ArchivesDocument.{archive_finding_package}
use Rattle.cargo_lock_verify.specs.FoldersDocument.{folder_finding_kind, folder_finding_line_in}
use Rattle.cargo_lock_verify.specs.FoldersDocument.{folder_finding_package}
use Rattle.cargo_lock_verify.specs.Lines.{archive_finding_line}
use Rattle.cargo_lock_verify.specs.Vendored.{FolderFindingData}
use Rattle.cargo_lock_verify.specs.VendoredLines.{folder_finding_line}

-- ---- archives

-- a package without an archive counts if all packages are asked for, and if no archive matches
abbrev pub missing_counts : Bool → Counts → Bool
missing_counts all c = all || c.matches == 0

-- a finding of archives counts, where a package without an archive does or does not
abbrev pub counts_if : Bool → ArchiveFindingData → Bool
counts_if missing (Changed p a) = true
counts_if missing (Missing p) = missing
counts_if missing (NoChecksum p) = true

-- a finding at a spot
unfoldable pub archive_finding_reported : Bool → SpotData → ArchiveFindingData → ReportedData
archive_finding_reported missing spot f = reported_of (rule_of_kind (archive_finding_kind f))
    (level_of (counts_if missing f)) (archive_finding_line f) (Some (archive_finding_package f)) spot

-- a finding in the lockfile at a path, by the lines of the packages
abbrev pub reported_archive : Bool → List ℕ → LinesData → ArchiveFindingData → ReportedData
reported_archive missing path lines f = archive_finding_reported missing
    (record { path = path; line = archive_finding_line_in lines f }) f

-- all findings of archives, each once and in their order, where so many packages are in each class
abbrev pub reported_archives : Bool → Counts → List ℕ → LinesData → List ArchiveFindingData
    → List ReportedData
reported_archives all counts path lines = map (reported_archive (missing_counts all counts) path lines)

-- ---- folders

-- a finding at a spot, which counts
unfoldable pub folder_finding_reported : SpotData → FolderFindingData → ReportedData
folder_finding_reported spot f = reported_of (rule_of_kind (folder_finding_kind f)) Error
    (folder_finding_line f) (folder_finding_package f) spot

-- a finding in the lockfile at a path, by the lines of the packages
abbrev pub reported_folder : List ℕ → LinesData → FolderFindingData → ReportedData
reported_folder path lines f =
    folder_finding_reported (record { path = path; line = folder_finding_line_in lines f }) f

-- all findings of folders, each once and in their order
abbrev pub reported_folders : List ℕ → LinesData → List FolderFindingData → List ReportedData
reported_folders path lines = map (reported_folder path lines)
