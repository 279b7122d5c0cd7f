-- What is printed of what is found in lockfiles, in the form that the arguments ask for.
use Rattle.std.specs.Prelude.{◌≡◌, ◌≢◌, ◌⊎◌, ◌++◌, [], ◌∷◌, ℕ, List, None, Option, Some, codes, map}
use Rattle.std.specs.Prelude.{option_map}
use Rattle.std.specs.declared.io.ErrorKind.TheVariants.{OutOfMemory}
use Rattle.std.specs.Io.KnownBytes.{Appends}
use Rattle.std.specs.List.{AllZip, flat_map}
use Rattle.std.specs.Path.{IsAbsolute, StripsPrefix}
use Rattle.std.specs.Str.Lines.{lines}
use Rattle.clap.specs.Matches.{first_value}
use Rattle.clap.specs.declared.parser.matches.Found.{Found}
use Rattle.json.specs.Json.{Json}
use Rattle.cargo_lock_display.specs.File.{FileData}
use Rattle.cargo_lock_encoding.specs.Lockfiles.{LockfileData}
use Rattle.cargo_lock_location.specs.Lines.{LinesData}
use Rattle.cargo_lock_location.specs.Location.{lines_of_packages}
use Rattle.cargo_lock_parts.specs.Ascii.{newline}
use Rattle.cargo_lock_parts.specs.Identity.{PackageData}
use Rattle.cargo_lock_parts.specs.declared.error.Error.TheVariants.{Io, Memory}
use Rattle.cargo_lock_report.specs.Annotations.{annotations_text}
use Rattle.cargo_lock_report.specs.Log.{sarif_json}
use Rattle.cargo_lock_report.specs.Reported.{ReportedData}
use Rattle.printing.specs.Json.{IsJsonText}
use Rattle.cli_support.specs.declared.fault.Fault.{Fault}
use Rattle.cli_support.specs.declared.fault.Fault.TheVariants.{Library, NameOfFile}
use Rattle.cli_input.specs.declared.findings.Form.{Form}
use Rattle.cli_input.specs.declared.findings.Form.TheVariants as form
use Rattle.cli_input.specs.declared.subject.Subject.{Subject}
use Rattle.cli_input.specs.Json.{IsAsked, IsUnasked, PrintsLine, document_path}

-- ---- a lockfile

-- a lockfile of which findings are printed: as a document has it, its path as reports have it, its
-- text and its packages
pub record SubjectData : Type 0 where
  pub file : FileData
  pub path : List ℕ
  pub text : List ℕ
  pub packages : List PackageData

-- the data of such a lockfile of the program
abbrev pub subject_of : Subject → SubjectData
subject_of s = record {
  file = s.file.now;
  path = s.path.now;
  text = s.text.now;
  packages = s.packages.now;
}

-- the packages, and the lines of a text in which they begin
abbrev pub lines_in_text : List ℕ → List PackageData → LinesData
lines_in_text text packages = record {
  packages = packages;
  lines = lines_of_packages (lines text) (map (λ p. p.name) packages);
}

-- the same of such a lockfile
abbrev pub lines_in : SubjectData → LinesData
lines_in s = lines_in_text s.text s.packages

-- the lockfile that this text means, of this argument, with this path in reports
abbrev pub subject_of_lockfile : List ℕ → List ℕ → List ℕ → LockfileData → SubjectData
subject_of_lockfile argument path text l = record {
  file = record { path = document_path argument; format = l.version };
  path = path;
  text = text;
  packages = l.packages;
}

-- the name of standard input in reports: what `--name` says, unless that is empty
abbrev pub name_of_standard : Option (List ℕ) → List ℕ
name_of_standard None = codes "Cargo.lock"
name_of_standard (Some []) = codes "Cargo.lock"
name_of_standard (Some (b ∷ bs)) = b ∷ bs

-- the path of a lockfile in what is printed of it: as it was given, unless reports are asked for; these
-- have for standard input what `--name` says, and may have a path relative to some folder, since no
-- contract says in which one the program runs
pub record IsReportPath (found : Found) (argument path : List ℕ) : Type 0 where
  pub given : first_value found (codes "format") ≡ None → path ≡ argument
  pub standard : first_value found (codes "format") ≢ None → argument ≡ codes "-"
      → path ≡ name_of_standard (first_value found (codes "name"))
  pub other : argument ≢ codes "-"
      → (path ≡ argument) ⊎ ((folder : List ℕ) × StripsPrefix argument folder path)

-- `--name` is given, and the argument is a file, which has a path
pub record IsNameOfFile (found : Found) (argument : List ℕ) : Type 0 where
  pub given : first_value found (codes "name") ≢ None
  pub file : argument ≢ codes "-"

-- the path that `--name` gives to standard input, if it is given
abbrev pub given_name : Found → Option (List ℕ)
given_name found =
    option_map (λ name. name_of_standard (Some name)) (first_value found (codes "name"))

-- the error where the path of a file is not made: memory ran out, or for an absolute path the system
-- does not say in which folder the program runs
abbrev pub IsPathFault : List ℕ → Fault → Type 0
IsPathFault argument (Library Memory) = Unit {0}
IsPathFault argument (Library (Io kind)) = IsAbsolute argument × (kind ≢ OutOfMemory)
IsPathFault argument other = ⊥

-- the same of the path in a report, and where `--name` is given for a file
abbrev pub IsReportPathFault : Found → List ℕ → Fault → Type 0
IsReportPathFault found argument (Library Memory) = Unit {0}
IsReportPathFault found argument NameOfFile = (first_value found (codes "format") ≢ None)
    × IsNameOfFile found argument
IsReportPathFault found argument fault = (first_value found (codes "format") ≢ None)
    × (argument ≢ codes "-") × IsPathFault argument fault

-- ---- forms

-- the form that the arguments ask for
pub record IsForm (found : Found) (asked : Form) : Type 0 where
  pub json : IsAsked found (codes "json") → asked ≡ form.Json
  pub sarif : IsUnasked found (codes "json")
      → first_value found (codes "format") ≡ Some (codes "sarif") → asked ≡ form.Sarif
  pub github : IsUnasked found (codes "json")
      → first_value found (codes "format") ≡ Some (codes "github") → asked ≡ form.Github
  pub lines : IsUnasked found (codes "json") → first_value found (codes "format") ≡ None
      → asked ≡ form.Lines

-- what is found in a lockfile: its lines, its document, and the findings of reports
pub record LockfileFound : Type 0 where
  pub lines : List ℕ
  pub document : Json
  pub reported : List ReportedData

-- what is found in such a lockfile: these lines, and a document and findings of reports that are made
-- by the lines of its packages
abbrev pub found_in_lockfile : SubjectData → List ℕ → (FileData → LinesData → Json)
    → (List ℕ → LinesData → List ReportedData) → LockfileFound
found_in_lockfile s lines document reported = record {
  lines = lines;
  document = document s.file (lines_in s);
  reported = reported s.path (lines_in s);
}

-- the documents are printed, each in a line
abbrev pub PrintsDocuments : List Json → Option (List ℕ) → Option (List ℕ) → Type 0
PrintsDocuments documents old new = (texts : List (List ℕ)) × AllZip IsJsonText documents texts
    × Appends old new (flat_map (λ text. text ++ newline ∷ []) texts)

-- what is found in lockfiles is printed in a form: the lines, the documents, one log of SARIF, or
-- annotations of GitHub
abbrev pub PrintsAs : Form → List LockfileFound → Option (List ℕ) → Option (List ℕ) → Type 0
PrintsAs form.Lines all old new = Appends old new (flat_map (λ f. f.lines) all)
PrintsAs form.Json all old new = PrintsDocuments (map (λ f. f.document) all) old new
PrintsAs form.Sarif all old new =
    PrintsLine (IsJsonText (sarif_json (flat_map (λ f. f.reported) all))) old new
PrintsAs form.Github all old new =
    Appends old new (annotations_text (flat_map (λ f. f.reported) all))

-- the same in the form that the arguments ask for
abbrev pub PrintsFound : Found → List LockfileFound → Option (List ℕ) → Option (List ℕ) → Type 0
PrintsFound found all old new = (asked : Form) × IsForm found asked × PrintsAs asked all old new

-- ---- what is kept until it is printed

-- a text of lines or of documents, and findings of reports
pub record KeptTold : Type 0 where
  pub text : List ℕ
  pub reported : List ReportedData

-- this is what is printed of what is found, but for the log and the annotations that are made of
-- findings: where these are asked for there is no text, and else no finding of a report
abbrev pub IsToldAs : Form → List LockfileFound → KeptTold → Type 0
IsToldAs form.Lines all told = (told.text ≡ flat_map (λ f. f.lines) all) × (told.reported ≡ [])
IsToldAs form.Json all told = (texts : List (List ℕ))
    × AllZip IsJsonText (map (λ f. f.document) all) texts
    × (told.text ≡ flat_map (λ text. text ++ newline ∷ []) texts) × (told.reported ≡ [])
IsToldAs form.Sarif all told = (told.text ≡ []) × (told.reported ≡ flat_map (λ f. f.reported) all)
IsToldAs form.Github all told = (told.text ≡ []) × (told.reported ≡ flat_map (λ f. f.reported) all)
