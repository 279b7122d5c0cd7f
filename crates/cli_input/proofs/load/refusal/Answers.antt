use Rattle.std.proofs.Common.{sym}
use Rattle.cli_input.proofs.load.refusal.Goals as goal

pub returns-in-Ok-Some : goal.returns-in-Ok-Some
returns-in-Ok-Some c =
    let line = rw c.in-Ok-Some.field-0-is at c.in-Ok-Some.ensures in
    c.marked.ensures c.args.text.now c.args.error (sym line)
