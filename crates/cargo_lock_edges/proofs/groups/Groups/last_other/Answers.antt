use Rattle.cargo_lock_edges.proofs.LastPlaces.{fourth-or-none}
use Rattle.cargo_lock_edges.proofs.NearestPlaces.{other-second}
use Rattle.cargo_lock_edges.proofs.groups.Groups.last_other.Goals as goal

pub returns-in-Some : goal.returns-in-Some
returns-in-Some c = other-second c.args.self.now.packages c.args.dependency.now c.in-Some.place
    c.requires.none c.in-Some.ensures

pub returns-in-None : goal.returns-in-None
returns-in-None c = fourth-or-none c.args.self.now.packages c.args.dependency.now
    c.last_like-in-None.result c.requires.none c.in-None.ensures c.last_like-in-None.ensures
