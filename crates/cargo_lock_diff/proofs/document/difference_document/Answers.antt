use Rattle.std.proofs.Common.{arith}
use Rattle.cargo_lock_diff.proofs.DocumentDepth.{difference-depth}
use Rattle.cargo_lock_diff.proofs.document.difference_document.Goals as goal

pub json_line-requires : goal.json_line-requires
json_line-requires c =
    omega (arith, difference-depth c.args.old.now c.args.new.now c.args.summary.now c.args.changes.now)
