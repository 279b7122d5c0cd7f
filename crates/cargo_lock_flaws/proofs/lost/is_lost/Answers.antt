use Rattle.cargo_lock_edges.proofs.Grouping.{lost-from}
use Rattle.cargo_lock_flaws.proofs.lost.is_lost.Goals as goal

pub returns : goal.returns
returns c = lost-from c.args.groups.now c.args.dependency.now c.best.result c.is_none.result
    c.is_none.ensures c.best.ensures
