use Rattle.std.proofs.Common.{◌≡◌, rules, string_bytes}
use Rattle.cargo_lock_c.specs.Differences.{IsDifferenceText}
use Rattle.cargo_lock_c.proofs.HandedOut.{handed-answer}
use Rattle.cargo_lock_c.proofs.difference.cargo_lock_diff.Goals as goal

pub returns-in-Ok-clause-difference : goal.returns-in-Ok-clause-difference
returns-in-Ok-clause-difference c =
    let same : c.as_bytes.result.now ≡ string_bytes c.in-Ok.lines = search rules in
    handed-answer (IsDifferenceText c.args.old.now c.args.new.now c.args.dependencies) c.as_bytes.result.now _ _ _ _ _
    (rw same c.in-Ok.ensures.ok) c.hand_out.ensures.handed

pub returns-in-Err-clause-read_old : goal.returns-in-Err-clause-read_old
returns-in-Err-clause-read_old c = rw c.status.ensures c.in-Err.ensures.read_old
