use Rattle.std.proofs.Common.{◌≡◌, rules}
use Rattle.cargo_lock_c.proofs.Refusals.{refused-text}
use Rattle.cargo_lock_c.proofs.reading.read.Goals as goal

pub returns-in-Err-clause-refused : goal.returns-in-Err-clause-refused
returns-in-Err-clause-refused c =
    let same : c.in-Ok.text.now ≡ c.args.bytes.now = search rules in
    rw (c.from.ensures, ← same) (refused-text c.in-Ok.text.now c.in-Err.fault c.in-Err.ensures)
