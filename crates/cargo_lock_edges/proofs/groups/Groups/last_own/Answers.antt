use Rattle.cargo_lock_edges.proofs.NearestPlaces.{target-first}
use Rattle.cargo_lock_edges.proofs.groups.Groups.last_own.Goals as goal

pub returns-in-Some : goal.returns-in-Some
returns-in-Some c = target-first c.args.self.now.packages c.args.dependency.now c.in-Some.place
    c.in-Some.ensures

pub last_with_reference-requires : goal.last_with_reference-requires
last_with_reference-requires c = record { shared = c.requires; first = c.in-None.ensures }
