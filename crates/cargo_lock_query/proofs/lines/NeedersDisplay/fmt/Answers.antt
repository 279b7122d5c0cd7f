use Rattle.std.proofs.Common.{rules}
use Rattle.std.proofs.Output.{has_written_append, has_written_of_eq}
use Rattle.cargo_lock_query.specs.Lines.{needer_line}
use Rattle.cargo_lock_query.proofs.Writing.{referred-next}
use Rattle.cargo_lock_query.proofs.lines.NeedersDisplay.fmt.Goals as goal

pub loop-needer-preserved : goal.loop-needer-preserved
loop-needer-preserved g c = λ p.
    has_written_of_eq _ _ _ _ _ (referred-next (needer_line c.args.self.now.0.now) c.deref-needer-items.result.now c.loop-needer.needer-index c.needer-item.result c.loop-needer-test.true c.needer-item.is)
    (has_written_append _ _ _ _ _ _ (c.loop-needer.invariant p) (search rules))
