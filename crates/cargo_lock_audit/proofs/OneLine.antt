-- Each line of a report is one line: each part of it is printable.
use Rattle.std.proofs.Common.{◌≡◌, ◌==◌, encode_utf8, ◌++◌, ◌∙◌, [], ◌∷◌, ℕ, Bool, true, false, List, Option, None, Some, ap, codes, length, map, refl, string_bytes, sym}
use Rattle.std.specs.List.{All, flat_map}
use Rattle.std.specs.Str.{chars}
use Rattle.std.specs.Str.Lines.{lines}
use Rattle.std.proofs.lemmas.Grind.{flat_map-append}
use Rattle.std.proofs.lemmas.List.{append-nil}
use Rattle.std.proofs.lemmas.List.Elements.{All-append, All-cons, All-nil}
use Rattle.printing.specs.Laws.{IsPrintable}
use Rattle.printing.specs.Shown.{backquote}
use Rattle.printing.specs.declared.form.Form.TheVariants.{Plain, Quoted}
use Rattle.printing.proofs.LinesOf.{printable-lines}
use Rattle.printing.proofs.Printable.{Prints, decimal-prints, either_text, empty, join, join_each, literal, shown-prints, words}
use Rattle.cargo_lock_display.proofs.Printed.{package-prints}
use Rattle.cargo_lock_audit.specs.declared.database.DatabaseFault.TheVariants as fault
use Rattle.cargo_lock_audit.specs.declared.coverage.Origin.TheVariants as origin
use Rattle.cargo_lock_audit.specs.Advisory.{AdvisoryData}
use Rattle.cargo_lock_audit.specs.Coverage.{CoverageData, count_from, coverage_line, lead_after, not_compared_text, noun, counted_part}
use Rattle.cargo_lock_audit.specs.Findings.{AdvisoryFindingData}
use Rattle.cargo_lock_audit.specs.Lines.{EachAuditedIsOneLine, FaultsArePrintable, LinesArePrintable, advisory_finding_line, audit_report_text, file_line, mark_text, or_text, patched_text, said, text_of_lines, title_char, title_text, titled, unmet_line, unmet_text}
use Rattle.cargo_lock_audit.specs.Report.{ReportData}
use Rattle.cargo_lock_audit.specs.Requirement.{RequirementData}
use Rattle.cargo_lock_parts.specs.Identity.{PackageData}

patched-prints : (rs : List RequirementData) → Prints (patched_text rs)
patched-prints [] = literal (codes "no patched version") refl
patched-prints (r ∷ rest) = words (codes "patched ") refl (join (shown-prints Quoted r.text)
    (join_each or_text (λ (s : RequirementData). words (codes " or ") refl (shown-prints Quoted s.text)) rest))

title-prints : (title : List ℕ) → Prints (title_text title)
title-prints title = join_each title_char
    (λ (c : ℕ). either_text (c == backquote) (literal (codes "`") refl) (shown-prints Quoted (encode_utf8 c))) (chars title)

titled-prints : (a : AdvisoryData) → Prints (titled a)
titled-prints a = join (title-prints a.title) (words (codes "; ") refl (patched-prints a.patched))

said-prints : (a : AdvisoryData) (kind : Option (List ℕ)) → Prints (said a kind)
said-prints a None = titled-prints a
said-prints a (Some kind) = join (shown-prints Plain kind) (words (codes ": ") refl (titled-prints a))

mark-prints : (brought : Option Bool) (is_denied : Bool) → Prints (mark_text brought is_denied)
mark-prints (Some false) is_denied = literal (codes "=") refl
mark-prints (Some true) is_denied = either_text is_denied (literal (codes "!") refl) (literal (codes "?") refl)
mark-prints None is_denied = either_text is_denied (literal (codes "!") refl) (literal (codes "?") refl)

line-prints : (f : AdvisoryFindingData) → Prints (advisory_finding_line f)
line-prints f = join (mark-prints f.brought f.is_denied)
    (words (codes " ") refl (join (package-prints f.content) (words (codes ": ") refl
    (join (shown-prints Plain f.advisory.id) (words (codes ": ") refl (said-prints f.advisory f.advisory.informational))))))

unmet-prints : (id : List ℕ) → Prints (unmet_line id)
unfolding unmet_line
unmet-prints id = words (codes "- ") refl (join (shown-prints Plain id) (literal (codes ": nothing to ignore") refl))

part-prints : (lead : List ℕ) (n : ℕ) (end : List ℕ) → Prints lead → Prints end → Prints (counted_part lead n end)
part-prints lead n end h k = either_text (n == 0) empty (join h (join (decimal-prints n) (words (codes " ") refl k)))

after-prints : (lead : List ℕ) (n : ℕ) → Prints lead → Prints (lead_after lead n)
after-prints lead n h = either_text (n == 0) h (literal (codes ", ") refl)

not-compared-prints : (ps : List PackageData) → Prints (not_compared_text ps)
not-compared-prints ps =
    let lead_1 : Prints (codes "; not compared: ") = literal (codes "; not compared: ") refl in
    let lead_2 = after-prints (codes "; not compared: ") (count_from origin.Git ps) lead_1 in
    let lead_3 = after-prints _ (count_from origin.Registry ps) lead_2 in
    let lead_4 = after-prints _ (count_from origin.Folder ps) lead_3 in
    join (part-prints _ (count_from origin.Git ps) _ lead_1 (literal (codes "from git") refl))
    (join (part-prints _ (count_from origin.Registry ps) _ lead_2 (literal (codes "from other registries") refl))
    (join (part-prints _ (count_from origin.Folder ps) _ lead_3 (literal (codes "from folders") refl))
    (part-prints _ (count_from origin.Unsaid ps) _ lead_4 (literal (codes "without a source") refl))))

noun-prints : (n : ℕ) (one more : List ℕ) → Prints one → Prints more → Prints (noun n one more)
noun-prints n one more h k = either_text (n == 1) h k

coverage-prints : (c : CoverageData) → Prints (coverage_line c)
coverage-prints c = join (decimal-prints (length c.compared)) (words (codes " ") refl
    (join (noun-prints (length c.compared) _ _ (literal (codes "package") refl) (literal (codes "packages") refl))
    (words (codes " of crates.io compared with ") refl (join (decimal-prints c.advisories) (words (codes " ") refl
    (join (noun-prints c.advisories _ _ (literal (codes "advisory") refl) (literal (codes "advisories") refl))
    (not-compared-prints c.not_compared)))))))

pub lines-are-printable : LinesArePrintable
lines-are-printable = (λ f. (line-prints f).all, λ id. (unmet-prints id).all, λ c. (coverage-prints c).all)

joined : {X : Type 0} (line : X → List ℕ) (xs : List X) → flat_map (λ x. line x ++ 10 ∷ []) xs ≡ text_of_lines (map line xs)
joined line [] = refl
joined line (x ∷ xs) = ap (λ (ys : List ℕ). (line x ++ 10 ∷ []) ++ ys) (joined line xs)

-- the lines of a report
abbrev report_lines : ReportData → List (List ℕ)
report_lines r = map advisory_finding_line r.findings ++ (map unmet_line r.unmet ++ coverage_line r.coverage ∷ [])

rest-together : (ids : List (List ℕ)) (last : List ℕ)
    → unmet_text ids ++ (last ++ 10 ∷ []) ≡ text_of_lines (map unmet_line ids ++ last ∷ [])
rest-together ids last = ap (λ (ys : List ℕ). ys ++ (last ++ 10 ∷ [])) (joined unmet_line ids)
    ∙ ap (λ (ys : List ℕ). text_of_lines (map unmet_line ids) ++ ys) (sym (append-nil (last ++ 10 ∷ [])))
    ∙ sym (flat_map-append (λ (line : List ℕ). line ++ 10 ∷ []) (map unmet_line ids) (last ∷ []))

together : (r : ReportData) → audit_report_text r ≡ text_of_lines (report_lines r)
together r =
    ap (λ (ys : List ℕ). ys ++ (unmet_text r.unmet ++ (coverage_line r.coverage ++ 10 ∷ []))) (joined advisory_finding_line r.findings)
    ∙ ap (λ (ys : List ℕ). text_of_lines (map advisory_finding_line r.findings) ++ ys) (rest-together r.unmet (coverage_line r.coverage))
    ∙ sym (flat_map-append (λ (line : List ℕ). line ++ 10 ∷ []) (map advisory_finding_line r.findings) (map unmet_line r.unmet ++ coverage_line r.coverage ∷ []))

all-print : {X : Type 0} (line : X → List ℕ) → ((x : X) → Prints (line x)) → (xs : List X) → All IsPrintable (map line xs)
all-print line h [] = All-nil IsPrintable
all-print line h (x ∷ xs) = All-cons IsPrintable (line x) (map line xs) (h x).all (all-print line h xs)

pub each-is-one-line : EachAuditedIsOneLine
each-is-one-line r = ap lines (together r) ∙ printable-lines (report_lines r)
    (All-append IsPrintable (map advisory_finding_line r.findings) (map unmet_line r.unmet ++ coverage_line r.coverage ∷ [])
    (all-print advisory_finding_line line-prints r.findings)
    (All-append IsPrintable (map unmet_line r.unmet) (coverage_line r.coverage ∷ [])
    (all-print unmet_line unmet-prints r.unmet) (all-print coverage_line coverage-prints (r.coverage ∷ []))))

-- ---- why a database is refused

file-prints : (path text : List ℕ) → Prints text → Prints (file_line path text)
file-prints path text h = words (codes "advisory ") refl (join (shown-prints Quoted path) (words (codes ": ") refl h))

pub faults-are-printable : FaultsArePrintable
faults-are-printable (fault.Unread path e) = tt
faults-are-printable (fault.OtherPackage f) = (file-prints (string_bytes f.path) _ (words (codes "about `") refl
    (join (shown-prints Quoted f.advisory.name) (words (codes "`, in the folder of `") refl
    (join (shown-prints Quoted (string_bytes f.folder)) (literal (codes "`") refl)))))).all
faults-are-printable (fault.Twice f) = (file-prints (string_bytes f.path) _ (words (codes "another one is ") refl
    (join (shown-prints Plain f.advisory.id) (literal (codes " too") refl)))).all
faults-are-printable fault.Memory = (literal (codes "out of memory") refl).all
