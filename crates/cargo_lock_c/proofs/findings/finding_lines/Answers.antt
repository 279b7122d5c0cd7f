use Rattle.std.proofs.Common.{◌≡◌, ℕ, List, rules, string_bytes, subst}
use Rattle.cargo_lock_c.specs.Findings.{IsFindingsText}
use Rattle.cargo_lock_c.proofs.findings.finding_lines.Goals as goal

pub returns-in-Ok-lines_of_text-clause-ok : goal.returns-in-Ok-lines_of_text-clause-ok
returns-in-Ok-lines_of_text-clause-ok c =
    let same : c.in-Ok.text.now ≡ c.args.bytes.now = search rules in
    subst (λ (text : List ℕ). IsFindingsText text (string_bytes c.in-Ok-lines_of_text.lines)) same c.in-Ok-lines_of_text.ensures.ok
