use Rattle.cargo_lock_edges.proofs.LastPlaces.{target-of-best}
use Rattle.cargo_lock_edges.proofs.groups.Groups.target_of_several.Goals as goal

pub returns-in_err-best : goal.returns-in_err-best
returns-in_err-best c = rw c.from_residual.ensures c.in_err-best.ensures

pub returns : goal.returns
returns c = target-of-best c.args.self.now c.args.dependency.now c.in_ok-best.best
    c.last_like.result c.in_ok-best.ensures c.last_like.ensures
