-- The lines of what is found, and of why a database is refused.
use Rattle.std.specs.Prelude.{◌≡◌, ◌==◌, ◌++◌, [], ◌∷◌, ℕ, Bool, false, List, Option, None, Some}
use Rattle.std.specs.Prelude.{IfSome, codes, encode_utf8, if◌then◌else◌, map, string_bytes}
use Rattle.std.specs.List.{flat_map}
use Rattle.std.specs.Str.{chars}
use Rattle.std.specs.Str.Lines.{lines}
use Rattle.printing.specs.Laws.{IsPrintable}
use Rattle.printing.specs.Shown.{backquote, shown}
use Rattle.printing.specs.declared.form.Form.TheVariants.{Plain, Quoted}
use Rattle.cargo_lock_parts.specs.Ascii.{newline}
use Rattle.cargo_lock_display.specs.Line.{package_text}
use Rattle.cargo_lock_audit.specs.declared.database.AdvisoryFile.{AdvisoryFile}
use Rattle.cargo_lock_audit.specs.declared.database.DatabaseFault.{DatabaseFault}
use Rattle.cargo_lock_audit.specs.declared.database.DatabaseFault.TheVariants as fault
use Rattle.cargo_lock_audit.specs.Advisory.{AdvisoryData}
use Rattle.cargo_lock_audit.specs.Coverage.{CoverageData, coverage_line}
use Rattle.cargo_lock_audit.specs.Findings.{AdvisoryFindingData}
use Rattle.cargo_lock_audit.specs.Report.{ReportData}
use Rattle.cargo_lock_audit.specs.Requirement.{RequirementData}

-- `=` for what an older lockfile has too, else `!` for what is denied, and `?` for the rest
abbrev pub mark_text : Option Bool → Bool → List ℕ
mark_text (Some false) is_denied = codes "="
mark_text other is_denied = if is_denied then codes "!" else codes "?"

-- a character of a title: as between backquotes, but that the backquote is kept
abbrev pub title_char : ℕ → List ℕ
title_char c = if c == backquote then codes "`" else shown Quoted (encode_utf8 c)

-- the characters of a title
abbrev pub title_text : List ℕ → List ℕ
title_text title = flat_map title_char (chars title)

-- a requirement after ` or `
abbrev pub or_text : RequirementData → List ℕ
or_text r = codes " or " ++ shown Quoted r.text

-- each requirement after ` or `
abbrev pub or_texts : List RequirementData → List ℕ
or_texts = flat_map or_text

-- which versions are patched
abbrev pub patched_text : List RequirementData → List ℕ
patched_text [] = codes "no patched version"
patched_text (r ∷ rest) = codes "patched " ++ (shown Quoted r.text ++ or_texts rest)

-- the title of an advisory, and which versions are patched
abbrev pub titled : AdvisoryData → List ℕ
titled a = title_text a.title ++ (codes "; " ++ patched_text a.patched)

-- what an advisory says: its kind, if it is no vulnerability, and that
abbrev pub said : AdvisoryData → Option (List ℕ) → List ℕ
said a None = titled a
said a (Some kind) = shown Plain kind ++ (codes ": " ++ titled a)

-- the id of an advisory, and what it says
abbrev pub advisory_text : AdvisoryData → List ℕ
advisory_text a = shown Plain a.id ++ (codes ": " ++ said a a.informational)

-- the line of a finding
abbrev pub advisory_finding_line : AdvisoryFindingData → List ℕ
advisory_finding_line f = mark_text f.brought f.is_denied ++ (codes " " ++ (package_text f.content
    ++ (codes ": " ++ advisory_text f.advisory)))

-- the line of a text that is ignored, and of which no package has the advisory
unfoldable pub unmet_line : List ℕ → List ℕ
unmet_line id = codes "- " ++ (shown Plain id ++ codes ": nothing to ignore")

-- lines, each with its newline
abbrev pub text_of_lines : List (List ℕ) → List ℕ
text_of_lines = flat_map (λ line. line ++ newline ∷ [])

-- the line of each finding, with its newline
abbrev pub advisory_findings_text : List AdvisoryFindingData → List ℕ
advisory_findings_text = flat_map (λ f. advisory_finding_line f ++ newline ∷ [])

-- the line of each id, with its newline
abbrev pub unmet_text : List (List ℕ) → List ℕ
unmet_text = flat_map (λ id. unmet_line id ++ newline ∷ [])

-- the report behind its findings: the line of each text that was ignored in vain, and at last what was
-- compared
abbrev pub rest_of_report_text : ReportData → List ℕ
rest_of_report_text r = unmet_text r.unmet ++ (coverage_line r.coverage ++ newline ∷ [])

-- the report: the line of each finding, and the rest
abbrev pub audit_report_text : ReportData → List ℕ
audit_report_text r = advisory_findings_text r.findings ++ rest_of_report_text r

-- the report is exactly these lines, whatever names, ids, titles and requirements hold
abbrev pub EachAuditedIsOneLine : Type 0
EachAuditedIsOneLine = (r : ReportData) → lines (audit_report_text r)
    ≡ map advisory_finding_line r.findings ++ (map unmet_line r.unmet ++ coverage_line r.coverage ∷ [])

-- and each of them is printable ASCII
abbrev pub LinesArePrintable : Type 0
LinesArePrintable = ((f : AdvisoryFindingData) → IsPrintable (advisory_finding_line f))
    × ((id : List ℕ) → IsPrintable (unmet_line id))
    × ((c : CoverageData) → IsPrintable (coverage_line c))

-- ---- why a database is refused

-- a line about the advisory at a path
abbrev pub file_line : List ℕ → List ℕ → List ℕ
file_line path text = codes "advisory " ++ (shown Quoted path ++ (codes ": " ++ text))

-- the line of an advisory about another package than the folder it is in
abbrev pub other_package_line : AdvisoryFile → List ℕ
other_package_line f = file_line (string_bytes f.path) (codes "about `"
    ++ (shown Quoted f.advisory.name ++ (codes "`, in the folder of `"
    ++ (shown Quoted (string_bytes f.folder) ++ codes "`"))))

-- the line of an advisory whose id another one has
abbrev pub twice_line : AdvisoryFile → List ℕ
twice_line f = file_line (string_bytes f.path)
    (codes "another one is " ++ (shown Plain f.advisory.id ++ codes " too"))

-- the line of why a database is refused; the words for an advisory that does not read are in no
-- clause
abbrev pub fault_line : DatabaseFault → Option (List ℕ)
fault_line (fault.Unread path e) = None
fault_line (fault.OtherPackage f) = Some (other_package_line f)
fault_line (fault.Twice f) = Some (twice_line f)
fault_line fault.Memory = Some (codes "out of memory")

-- and each such line that a clause says is printable ASCII, whatever names, paths and ids hold
abbrev pub FaultsArePrintable : Type 0
FaultsArePrintable = (e : DatabaseFault) → IfSome (fault_line e) IsPrintable
