use Rattle.cargo_lock_edges.proofs.LastPlaces.{last-of-all}
use Rattle.cargo_lock_edges.proofs.groups.Groups.last_like.Goals as goal

pub returns-in_err-number : goal.returns-in_err-number
returns-in_err-number c = rw c.from_residual.ensures c.in_err-number.ensures

pub returns : goal.returns
returns c = last-of-all c.args.self.now c.args.dependency.now c.args.likeness
    c.in_ok-number.number c.places.result.now c.last_among.result c.places.ensures.are
    c.in_ok-number.ensures c.last_among.ensures
