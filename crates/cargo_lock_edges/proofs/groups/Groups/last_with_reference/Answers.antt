use Rattle.cargo_lock_edges.proofs.LastPlaces.{third-or-none}
use Rattle.cargo_lock_edges.proofs.NearestPlaces.{target-pinned}
use Rattle.cargo_lock_edges.proofs.groups.Groups.last_with_reference.Goals as goal

pub returns-in-Some : goal.returns-in-Some
returns-in-Some c = target-pinned c.args.self.now.packages c.args.dependency.now c.in-Some.place
    c.requires.first c.in-Some.ensures

pub returns-in-None : goal.returns-in-None
returns-in-None c = third-or-none c.args.self.now.packages c.args.dependency.now
    c.last_like-in-None.result c.requires.first c.in-None.ensures c.last_like-in-None.ensures
