-- What `check` prints, and its status.
use Rattle.std.specs.Prelude.{◌≡◌, ◌≢◌, ◌⊎◌, ◌++◌, ◌-◌, ◌^◌, ◌∷◌, [], ℕ, Bool, List, None, Option, Some}
use Rattle.std.specs.Prelude.{codes, false, is_some, length, map, min, option_map, true, unwrap_or}
use Rattle.std.specs.List.{AllZip, filter_map, flat_map, list_all, sum_by}
use Rattle.clap.specs.Matches.{matched_of, raw_values}
use Rattle.clap.specs.declared.parser.matches.Found.{Found}
use Rattle.toml.specs.Data.{Members}
use Rattle.toml.specs.Parse.{parse_document}
use Rattle.printing.specs.Shown.{shown}
use Rattle.printing.specs.declared.form.Form.TheVariants.{Plain}
use Rattle.cargo_lock_parts.specs.Ascii.{newline}
use Rattle.cargo_lock_check.specs.Document.{findings_json}
use Rattle.cargo_lock_check.specs.Finding.{lockfile_finding_line}
use Rattle.cargo_lock_check.specs.Findings.{AreFindings, FindingsData, PlacedFindingData, placed_told}
use Rattle.cargo_lock_check.specs.Reporting.{reported_findings}
use Rattle.cargo_lock_encoding.specs.Lockfiles.{EncodedData, LockfileData}
use Rattle.cargo_lock_location.specs.Lines.{LinesData}
use Rattle.cargo_lock_table_flaws.specs.Document.{table_findings_json}
use Rattle.cargo_lock_table_flaws.specs.Finding.{TableFindingData, table_finding_line}
use Rattle.cargo_lock_table_flaws.specs.Names.{listed_lines}
use Rattle.cargo_lock_table_flaws.specs.Report.{IsTableReport, IsUnresolvedReport}
use Rattle.cargo_lock_table_flaws.specs.Report.{TableReportData}
use Rattle.cargo_lock_table_flaws.specs.Reporting.{reported_table_findings}
use Rattle.cli.specs.Counts.{counts_line}
use Rattle.cli.specs.declared.checked.Checked.{Checked}
use Rattle.cli.specs.declared.checked.Named.{Named}
use Rattle.cli.specs.declared.several.Several.{Several}
use Rattle.cli_input.specs.declared.findings.Form.{Form}
use Rattle.cli_input.specs.Json.{document_path}
use Rattle.cli_input.specs.Limit.{IsReadInLimit}
use Rattle.cli_input.specs.Told.{IsReportPath, IsToldAs, LockfileFound, PrintsFound, SubjectData}
use Rattle.cli_input.specs.Told.{IsNameOfFile, found_in_lockfile, given_name, subject_of_lockfile}
use Rattle.cli_support.specs.Input.{given_path_in}

-- ---- a lockfile

-- the names of a lockfile: the argument for it, its path in reports, and the path before its lines,
-- where there are several lockfiles or `--name` gives it
pub record NamedData : Type 0 where
  pub argument : List ℕ
  pub path : List ℕ
  pub prefix : Option (List ℕ)

-- the data of such names of the program
abbrev pub named_of : Named → NamedData
named_of n = record {
  argument = n.argument.now;
  path = n.path.now;
  prefix = option_map (λ t. t.now) n.prefix;
}

-- what comes before a line: the path and `: `, or nothing
abbrev pub prefix_text : Option (List ℕ) → List ℕ
prefix_text None = []
prefix_text (Some path) = shown Plain path ++ codes ": "

-- a line behind that
abbrev pub prefixed : Option (List ℕ) → List ℕ → List ℕ
prefixed prefix line = prefix_text prefix ++ (line ++ newline ∷ [])

-- the lines of findings of a lockfile
abbrev pub placed_text : Option (List ℕ) → List PlacedFindingData → List ℕ
placed_text prefix = flat_map (λ f. prefixed prefix (lockfile_finding_line f.finding))

-- the lines of findings of a table
abbrev pub table_text : Option (List ℕ) → List TableFindingData → List ℕ
table_text prefix = flat_map (λ f. prefixed prefix (table_finding_line f))

-- what is found in a text, in how many packages, and how much it is
pub record CheckedData : Type 0 where
  pub found : LockfileFound
  pub packages : ℕ
  pub count : ℕ

-- findings of a lockfile
abbrev pub checked_lockfile : NamedData → List ℕ → LockfileData → FindingsData → CheckedData
checked_lockfile n text l f = record {
  found = found_in_lockfile (subject_of_lockfile n.argument n.path text l)
      (placed_text n.prefix (placed_told f))
      (λ file lines. findings_json file lines (placed_told f))
      (λ path lines. reported_findings path lines (placed_told f));
  packages = length f.packages;
  count = length (placed_told f);
}

-- a text that is no lockfile, in the format of a report
abbrev pub refused_subject : NamedData → List ℕ → TableReportData → SubjectData
refused_subject n text r = record {
  file = record { path = document_path n.argument; format = r.format };
  path = n.path;
  text = text;
  packages = [];
}

-- the lines of the packages that the table of a text lists
abbrev pub lines_in_table : List ℕ → Members → LinesData
lines_in_table text t = record { packages = []; lines = listed_lines text t }

-- a report on the table of such a text, by the lines of the packages that it lists
abbrev pub checked_report : NamedData → List ℕ → LinesData → TableReportData → CheckedData
checked_report n text lines r = record {
  found = found_in_lockfile (refused_subject n text r) (table_text n.prefix r.findings)
      (λ file _. table_findings_json file lines r.findings)
      (λ path _. reported_table_findings path lines r.findings);
  packages = r.packages;
  count = length r.findings;
}

-- this is found in a lockfile that was read from a text
abbrev pub IsCheckedLockfile : NamedData → List ℕ → LockfileData → CheckedData → Type 0
IsCheckedLockfile n text l c = (f : FindingsData) × AreFindings text l f
    × (c ≡ checked_lockfile n text l f)

-- the references of these values that resolve to nothing are found, of which there is one
abbrev pub IsCheckedUnresolved : NamedData → List ℕ → LinesData → EncodedData → CheckedData
    → Type 0
IsCheckedUnresolved n text lines e c = (r : TableReportData) × IsUnresolvedReport e r
    × (c ≡ checked_report n text lines r)

-- this keeps the table of a text from being read as a lockfile
abbrev pub IsCheckedMembers : NamedData → List ℕ → LinesData → Members → CheckedData → Type 0
IsCheckedMembers n text lines t c = (r : TableReportData) × IsTableReport t r
    × (c ≡ checked_report n text lines r)

-- the same of the table that the text is, by the lines of its packages
abbrev pub IsCheckedTable : NamedData → List ℕ → CheckedData → Type 0
IsCheckedTable n text c = (t : Members) × (parse_document text ≡ Some t)
    × IsCheckedMembers n text (lines_in_table text t) t c

-- this is found in a text: of one that means a lockfile within the limit its findings, and of a table
-- that means none what keeps it from that
abbrev pub IsCheckedText : Found → NamedData → List ℕ → CheckedData → Type 0
IsCheckedText found n text c =
    ((l : LockfileData) × IsReadInLimit found text l × IsCheckedLockfile n text l c)
    ⊎ IsCheckedTable n text c

-- ---- one lockfile

-- the status is a failure exactly if something is found, and otherwise a success
pub record IsFindingsStatus (count : ℕ) (failure success : Type 0) : Type 0 where
  pub found : count ≢ 0 → failure
  pub none : count ≡ 0 → success

-- what is found in a text is printed, with the status and the counts of it
abbrev pub PrintsText : Found → NamedData → List ℕ → List ℕ → Option (List ℕ) → Option (List ℕ)
    → Type 0 → Type 0 → Type 0
PrintsText found n text counts old new failure success = (c : CheckedData)
    × IsCheckedText found n text c × PrintsFound found (c.found ∷ []) old new
    × IsFindingsStatus c.count failure success × (counts ≡ counts_line c.packages c.count)

-- the same of the lockfile of an argument, behind what `--name` says of standard input; what is printed
-- is of some text, since no contract says what a file holds
abbrev pub PrintsCheckOf : Found → List ℕ → List ℕ → Option (List ℕ) → Option (List ℕ) → Type 0
    → Type 0 → Type 0
PrintsCheckOf found argument counts old new failure success = (text path : List ℕ)
    × IsReportPath found argument path × ¬ IsNameOfFile found argument
    × PrintsText found (record { argument = argument; path = path; prefix = given_name found })
    text counts old new failure success

-- ---- several lockfiles

-- the names of one of several lockfiles: before its lines is what `--name` says of standard input, and
-- otherwise the argument
abbrev pub named_among : Found → List ℕ → List ℕ → NamedData
named_among found argument path = record {
  argument = argument;
  path = path;
  prefix = Some (unwrap_or (given_name found) argument);
}

-- what comes of an argument: this is found in some text, or no lockfile is read
abbrev pub IsOutcome : Found → List ℕ → Option CheckedData → Type 0
IsOutcome found argument None = Unit {0}
IsOutcome found argument (Some c) = (text path : List ℕ) × IsReportPath found argument path
    × (¬ IsNameOfFile found argument)
    × IsCheckedText found (named_among found argument path) text c

-- what is found in the lockfiles that are read
abbrev pub read_of : List (Option CheckedData) → List CheckedData
read_of = filter_map (λ o. o)

-- each lockfile is read
abbrev pub are_all_read : List (Option CheckedData) → Bool
are_all_read = list_all is_some

-- how many packages are looked at, as far as it can be counted
abbrev pub packages_in : List CheckedData → ℕ
packages_in all = min (sum_by (λ c. c.packages) all) (2 ^ 64 - 1)

-- how much is found, as far as it can be counted
abbrev pub count_in : List CheckedData → ℕ
count_in all = min (sum_by (λ c. c.count) all) (2 ^ 64 - 1)

-- the greatest status of the lockfiles: that of a fault where one is not read, and otherwise that of
-- what is found
pub record IsGreatestStatus (outcomes : List (Option CheckedData)) (failure success fault : Type 0)
    : Type 0 where
  pub unread : are_all_read outcomes ≡ false → fault
  pub read : are_all_read outcomes ≡ true
      → IsFindingsStatus (count_in (read_of outcomes)) failure success

-- what is found in the lockfiles of these arguments is printed, with the status and the counts of it
abbrev pub PrintsSeveral : Found → List (List ℕ) → List ℕ → Option (List ℕ) → Option (List ℕ)
    → Type 0 → Type 0 → Type 0 → Type 0
PrintsSeveral found arguments counts old new failure success fault =
    (outcomes : List (Option CheckedData)) × AllZip (IsOutcome found) arguments outcomes
    × PrintsFound found (map (λ c. c.found) (read_of outcomes)) old new
    × IsGreatestStatus outcomes failure success fault
    × (counts ≡ counts_line (packages_in (read_of outcomes)) (count_in (read_of outcomes)))

-- ---- the arguments

-- the same of these arguments, and of that of an option where there are none
abbrev pub PrintsCheckBy : List (List ℕ) → Found → List ℕ → Option (List ℕ) → Option (List ℕ)
    → Type 0 → Type 0 → Type 0 → Type 0
PrintsCheckBy [] found counts old new failure success fault =
    PrintsCheckOf found (given_path_in found (codes "file")) counts old new failure success
PrintsCheckBy (argument ∷ []) found counts old new failure success fault =
    PrintsCheckOf found argument counts old new failure success
PrintsCheckBy (argument ∷ other ∷ rest) found counts old new failure success fault =
    PrintsSeveral found (argument ∷ other ∷ rest) counts old new failure success fault

-- the paths that the arguments have
abbrev pub given_paths : Found → List (List ℕ)
given_paths found = unwrap_or (option_map raw_values (matched_of found (codes "paths"))) []

-- the same of these paths
abbrev pub PrintsCheck : Found → List ℕ → Option (List ℕ) → Option (List ℕ) → Type 0 → Type 0
    → Type 0 → Type 0
PrintsCheck found = PrintsCheckBy (given_paths found) found

-- ---- what is kept until it is printed

-- this is what is printed of what is found in one lockfile, and how much that is
pub record IsCheckedOne (form : Form) (c : CheckedData) (checked : Checked) : Type 0 where
  pub told : IsToldAs form (c.found ∷ []) checked.told
  pub packages : checked.packages ≡ c.packages
  pub findings : checked.findings ≡ c.count

-- the same of several lockfiles, as far as it can be counted
pub record IsCheckedAs (form : Form) (all : List CheckedData) (checked : Checked) : Type 0 where
  pub told : IsToldAs form (map (λ c. c.found) all) checked.told
  pub packages : checked.packages ≡ packages_in all
  pub findings : checked.findings ≡ count_in all

-- the same of the outcomes of several arguments, with as many faults as are not read
pub record IsSeveralOf (form : Form) (outcomes : List (Option CheckedData)) (several : Several)
    : Type 0 where
  pub checked : IsCheckedAs form (read_of outcomes) several.checked
  pub faults : length several.faults.items ≡ length outcomes - length (read_of outcomes)
