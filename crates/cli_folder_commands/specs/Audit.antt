-- What `audit` prints, and its status.
use Rattle.std.specs.Prelude.{◌≡◌, ◌<◌, [], ◌∷◌, ℕ, Bool, List, Option, None, Some, codes, false}
use Rattle.std.specs.Prelude.{option_map, true}
use Rattle.std.specs.List.{list_any}
use Rattle.clap.specs.Matches.{first_value}
use Rattle.clap.specs.declared.parser.matches.Found.{Found}
use Rattle.cargo_lock.specs.Loads.{IsMeant}
use Rattle.cargo_lock_audit.specs.Advisory.{AdvisoryData}
use Rattle.cargo_lock_audit.specs.Audited.{AuditedData}
use Rattle.cargo_lock_audit.specs.Database.{AreInOrderOfIds}
use Rattle.cargo_lock_audit.specs.Lines.{advisory_findings_text, audit_report_text}
use Rattle.cargo_lock_audit.specs.Report.{ReportData, report_of}
use Rattle.cargo_lock_audit.specs.Settings.{SettingsData}
use Rattle.cargo_lock_audit.specs.Reporting.{reported_advisories}
use Rattle.cargo_lock_encoding.specs.Lockfiles.{LockfileData}
use Rattle.cargo_lock_encoding.specs.Means.{TextMeans}
use Rattle.cargo_lock_audit.specs.Document.{advisories_json}
use Rattle.cargo_lock_parts.specs.Identity.{PackageData}
use Rattle.cli_input.specs.Json.{IsFlag}
use Rattle.cli_input.specs.Told.{IsReportPath, LockfileFound, PrintsFound, SubjectData}
use Rattle.cli_input.specs.Told.{found_in_lockfile}
use Rattle.cli_input.specs.Told.{subject_of_lockfile}
use Rattle.cli_support.specs.Input.{given_path_in}
use Rattle.cli_folder_commands.specs.Part.{PrintsPart}
use Rattle.cli_folder_commands.specs.Reasoned.{PrintsReasoned}
use Rattle.cli_folder_commands.specs.Settings.{AreSettings}

-- what is found by a report on a lockfile
abbrev pub found_by_audit : SubjectData → ReportData → LockfileFound
found_by_audit s told = found_in_lockfile s (audit_report_text told)
    (λ file lines. advisories_json file lines told)
    (λ path lines. reported_advisories path lines told.findings)

-- a report is printed: with why the package of each finding is there, or as the arguments ask for it
abbrev pub PrintsByWhy : (is_asked : Bool) → Found → SubjectData → ReportData → Option (List ℕ)
    → Option (List ℕ) → Type 0
PrintsByWhy true found s told old new = PrintsReasoned s.packages told true old new
PrintsByWhy false found s told old new = PrintsFound found (found_by_audit s told ∷ []) old new

-- the same by the arguments
abbrev pub PrintsAsAsked : Found → SubjectData → ReportData → Option (List ℕ) → Option (List ℕ) → Type 0
PrintsAsAsked found s told old new = (is_asked : Bool) × IsFlag found (codes "why") is_asked
    × PrintsByWhy is_asked found s told old new

-- a report is printed, with the status of its findings
pub record PrintsAudited (found : Found) (s : SubjectData) (told : ReportData)
    (old new : Option (List ℕ)) (failure success : Type 0) : Type 0 where
  pub printed : PrintsAsAsked found s told old new
  pub some : list_any (λ f. f.is_denied) told.findings ≡ true → failure
  pub none : list_any (λ f. f.is_denied) told.findings ≡ false → success

-- what is reported of what is audited, by settings and by these advisories, is printed
abbrev pub PrintsAuditReport : Found → SettingsData → SubjectData → AuditedData → List AdvisoryData
    → ℕ → Option (List ℕ) → Option (List ℕ) → Type 0 → Type 0 → Type 0
PrintsAuditReport found settings s audited advisories size =
    PrintsAudited found s (report_of settings audited advisories size)

-- advisories in the order of their ids, of a database that has this many, and one or more
pub record IsSomeDatabase (advisories : List AdvisoryData) (size : ℕ) : Type 0 where
  pub in_order : AreInOrderOfIds advisories
  pub some : 0 < size

-- the same by the advisories of some database
abbrev pub PrintsAuditOf : Found → SettingsData → SubjectData → AuditedData → Option (List ℕ)
    → Option (List ℕ) → Type 0 → Type 0 → Type 0
PrintsAuditOf found settings s audited old new failure success =
    (advisories : List AdvisoryData) × (size : ℕ) × IsSomeDatabase advisories size
    × PrintsAuditReport found settings s audited advisories size old new failure success

-- ---- where some advisories were not read

-- the findings of a report on packages are printed, in the form that the arguments ask for: with why
-- the package of each is there, or not
abbrev pub PrintsPartByWhy : (is_asked : Bool) → Found → List PackageData → ReportData
    → Option (List ℕ) → Option (List ℕ) → Type 0
PrintsPartByWhy true found packages told old new = PrintsReasoned packages told false old new
PrintsPartByWhy false found packages told old new =
    PrintsPart found (advisory_findings_text told.findings) old new

-- the same by the arguments
abbrev pub PrintsPartAsAsked : Found → List PackageData → ReportData → Option (List ℕ)
    → Option (List ℕ) → Type 0
PrintsPartAsAsked found packages told old new = (is_asked : Bool)
    × IsFlag found (codes "why") is_asked × PrintsPartByWhy is_asked found packages told old new

-- the same of what is audited, by settings and by these advisories
abbrev pub PrintsPartOfAudit : Found → SettingsData → AuditedData → List AdvisoryData → ℕ
    → Option (List ℕ) → Option (List ℕ) → Type 0
PrintsPartOfAudit found settings audited advisories size =
    PrintsPartAsAsked found audited.packages (report_of settings audited advisories size)

-- ---- by the arguments

-- the older lockfile, if the arguments name one, is one that some text means
abbrev pub IsOlder : Option (List ℕ) → Option LockfileData → Type 0
IsOlder None None = Unit {0}
IsOlder (Some path) (Some l) = IsMeant l
IsOlder path older = ⊥

-- the packages of a lockfile, if there is one
abbrev pub packages_before : Option LockfileData → Option (List PackageData)
packages_before = option_map (λ l. l.packages)

-- the same of the packages of a lockfile, since an older one if the arguments name it
abbrev pub PrintsAuditSince : Found → SettingsData → SubjectData
    → Option (List ℕ) → Option (List ℕ) → Type 0 → Type 0 → Type 0
PrintsAuditSince found settings s old new failure success =
    (older : Option LockfileData) × IsOlder (first_value found (codes "since")) older
    × PrintsAuditOf found settings s
    (record { packages = s.packages; older = packages_before older }) old new failure success

-- the same of a lockfile that some text means, by the settings of the arguments
abbrev pub PrintsAudit : Found → Option (List ℕ) → Option (List ℕ) → Type 0 → Type 0 → Type 0
PrintsAudit found old new failure success = (text path : List ℕ) × (l : LockfileData)
    × (settings : SettingsData) × TextMeans text l
    × IsReportPath found (given_path_in found (codes "file")) path × AreSettings found settings
    × PrintsAuditSince found settings
    (subject_of_lockfile (given_path_in found (codes "file")) path text l) old new failure success
