-- What `licenses` prints, and its counts.
use Rattle.std.specs.Prelude.{◌≡◌, [], ◌∷◌, ℕ, List, Option, codes, count_by, length, map}
use Rattle.clap.specs.declared.parser.matches.Found.{Found}
use Rattle.cargo_lock_encoding.specs.Lockfiles.{LockfileData}
use Rattle.cargo_lock_encoding.specs.Means.{TextMeans}
use Rattle.cargo_lock_licenses.specs.Document.{licenses_json}
use Rattle.cargo_lock_licenses.specs.Judged.{JudgedData, is_judged_finding}
use Rattle.cargo_lock_licenses.specs.Policy.{PolicyData}
use Rattle.cargo_lock_licenses.specs.Report.{AreJudged, UnmetData, all_unmet, report_text}
use Rattle.cargo_lock_licenses.specs.Reporting.{reported_licenses}
use Rattle.cargo_lock_licenses.specs.Subjects.{LicenseSubjectData}
use Rattle.cargo_lock_parts.specs.Identity.{PackageData}
use Rattle.cli_input.specs.Told.{IsReportPath, LockfileFound, PrintsFound, SubjectData}
use Rattle.cli_input.specs.Told.{found_in_lockfile}
use Rattle.cli_input.specs.Told.{subject_of_lockfile}
use Rattle.cli_support.specs.Input.{given_path_in}
use Rattle.cli_folder_commands.specs.Part.{PrintsPart, sure_judged_lines}
use Rattle.cli_folder_commands.specs.Policy.{IsPolicy}
use Rattle.cli_folder_commands.specs.declared.licenses.Counts.{Counts}

-- the subjects are these packages, each once and in their order, each with some manifests
abbrev pub AreLicensed : List PackageData → List LicenseSubjectData → Type 0
AreLicensed packages subjects = map (λ s. s.content) subjects ≡ packages

-- what is found where this is said of the packages of a lockfile, and this was said in vain
abbrev pub found_of_licenses : SubjectData → List JudgedData → List UnmetData → LockfileFound
found_of_licenses s judged unmet = found_in_lockfile s (report_text judged unmet)
    (λ file lines. licenses_json file lines judged unmet)
    (λ path lines. reported_licenses path lines judged)

-- these are how many packages this is said of, and how many of them are findings
pub record AreLicenseCounts (judged : List JudgedData) (counts : Counts) : Type 0 where
  pub packages : counts.packages ≡ length judged
  pub findings : counts.findings ≡ count_by is_judged_finding judged

-- what is said of packages, and what was said in vain, is printed, and these are the counts
pub record PrintsJudged (found : Found) (s : SubjectData) (judged : List JudgedData)
    (unmet : List UnmetData) (old new : Option (List ℕ)) (counts : Counts) : Type 0 where
  pub printed : PrintsFound found (found_of_licenses s judged unmet ∷ []) old new
  pub counted : AreLicenseCounts judged counts

-- what is said of the subjects by a policy is printed
abbrev pub PrintsLicenseReport : Found → PolicyData → SubjectData → List LicenseSubjectData
    → Option (List ℕ) → Option (List ℕ) → Counts → Type 0
PrintsLicenseReport found policy s subjects old new counts =
    (judged : List JudgedData) × AreJudged policy subjects judged
    × PrintsJudged found s judged (all_unmet policy subjects judged) old new counts

-- where some manifests were not read: of what is said of the subjects by a policy, the lines of what is
-- a finding in any case are printed, in the form that the arguments ask for
abbrev pub PrintsPartOfLicenses : Found → PolicyData → List LicenseSubjectData → Option (List ℕ)
    → Option (List ℕ) → Type 0
PrintsPartOfLicenses found policy subjects old new = (judged : List JudgedData)
    × AreJudged policy subjects judged × PrintsPart found (sure_judged_lines judged) old new

-- what is said of the packages of a lockfile, each with some manifests, is printed
abbrev pub PrintsLicensesOf : Found → PolicyData → SubjectData → Option (List ℕ)
    → Option (List ℕ) → Counts → Type 0
PrintsLicensesOf found policy s old new counts =
    (subjects : List LicenseSubjectData) × AreLicensed s.packages subjects
    × PrintsLicenseReport found policy s subjects old new counts

-- the same of a lockfile that some text means, by the policy of the arguments
abbrev pub PrintsLicenses : Found → Option (List ℕ) → Option (List ℕ) → Counts → Type 0
PrintsLicenses found old new counts = (text path : List ℕ) × (l : LockfileData)
    × (policy : PolicyData) × TextMeans text l
    × IsReportPath found (given_path_in found (codes "file")) path × IsPolicy found policy
    × PrintsLicensesOf found policy
    (subject_of_lockfile (given_path_in found (codes "file")) path text l) old new counts
