use Rattle.std.proofs.Common.{◌≡◌, rules, string_bytes}
use Rattle.cargo_lock_c.specs.Findings.{IsFindingsText}
use Rattle.cargo_lock_c.proofs.HandedOut.{handed-answer}
use Rattle.cargo_lock_c.proofs.findings.cargo_lock_check.Goals as goal

pub returns-in-Ok-clause-findings : goal.returns-in-Ok-clause-findings
returns-in-Ok-clause-findings c =
    let same : c.as_bytes.result.now ≡ string_bytes c.in-Ok.lines = search rules in
    handed-answer (IsFindingsText c.args.text.now) c.as_bytes.result.now _ _ _ _ _
    (rw same c.in-Ok.ensures.ok) c.hand_out.ensures.handed
