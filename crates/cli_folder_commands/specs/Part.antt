-- What `verify`, `licenses` and `audit` print where not all of a folder was read, before they fail:
-- what was found of the rest.
use Rattle.std.specs.Prelude.{◌++◌, [], ◌∷◌, ℕ, Bool, List, Option, false, if◌then◌else◌, true}
use Rattle.std.specs.Io.KnownBytes.{Appends}
use Rattle.std.specs.List.{flat_map}
use Rattle.clap.specs.declared.parser.matches.Found.{Found}
use Rattle.cargo_lock_licenses.specs.Judged.{JudgedData, judged_line}
use Rattle.cargo_lock_licenses.specs.Verdicts.{VerdictData, Allowed, Differ, NoExpression}
use Rattle.cargo_lock_licenses.specs.Verdicts.{NoLicense, NoManifest, NotAllowed, OnlyFile}
use Rattle.cargo_lock_parts.specs.Ascii.{newline}
use Rattle.cargo_lock_verify.specs.Archives.{ArchiveFindingData, Missing}
use Rattle.cargo_lock_verify.specs.Lines.{archive_finding_line}
use Rattle.cargo_lock_verify.specs.Vendored.{FolderFindingData, NoFolder}
use Rattle.cargo_lock_verify.specs.VendoredLines.{folder_finding_line}
use Rattle.cli_input.specs.Told.{IsForm}
use Rattle.cli_input.specs.declared.findings.Form.{Form}
use Rattle.cli_input.specs.declared.findings.Form.TheVariants as form

-- the line of a finding of archives, with its newline; that a package has none is not said, since what
-- was not read may be it
abbrev pub sure_archive_line : ArchiveFindingData → List ℕ
sure_archive_line (Missing p) = []
sure_archive_line f = archive_finding_line f ++ newline ∷ []

-- the same of each finding
abbrev pub sure_archive_lines : List ArchiveFindingData → List ℕ
sure_archive_lines = flat_map sure_archive_line

-- the line of a finding of folders, with its newline; that a package has none is not said, since what
-- was not read may be it
abbrev pub sure_folder_line : FolderFindingData → List ℕ
sure_folder_line (NoFolder p) = []
sure_folder_line f = folder_finding_line f ++ newline ∷ []

-- the same of each finding
abbrev pub sure_folder_lines : List FolderFindingData → List ℕ
sure_folder_lines = flat_map sure_folder_line

-- it is a finding whatever was not read: an allowed expression is none, and what was not read may be
-- the manifest of a package without one
abbrev pub is_sure : VerdictData → Bool
is_sure (Allowed p text) = false
is_sure (NotAllowed p text) = true
is_sure (NoExpression p text) = true
is_sure (OnlyFile p path) = true
is_sure (NoLicense p) = true
is_sure (NoManifest p) = false
is_sure (Differ p) = true

-- the line of what is said of a package, with its newline, if it is such a finding
abbrev pub sure_judged_line : JudgedData → List ℕ
sure_judged_line j = if is_sure j.verdict then judged_line j ++ newline ∷ [] else []

-- the same of each package
abbrev pub sure_judged_lines : List JudgedData → List ℕ
sure_judged_lines = flat_map sure_judged_line

-- lines are printed if lines are asked for, and else nothing, since a document or a report is whole
abbrev pub PrintsPartAs : Form → List ℕ → Option (List ℕ) → Option (List ℕ) → Type 0
PrintsPartAs form.Lines lines old new = Appends old new lines
PrintsPartAs form.Json lines old new = Appends old new []
PrintsPartAs form.Sarif lines old new = Appends old new []
PrintsPartAs form.Github lines old new = Appends old new []

-- the same in the form that the arguments ask for
abbrev pub PrintsPart : Found → List ℕ → Option (List ℕ) → Option (List ℕ) → Type 0
PrintsPart found lines old new =
    (asked : Form) × IsForm found asked × PrintsPartAs asked lines old new
