use Rattle.std.proofs.Common.{inl}
use Rattle.cargo_lock_edges.proofs.LastPlaces.{nearest-or-none}
use Rattle.cargo_lock_edges.proofs.groups.Groups.nearest_of_several.Goals as goal

pub returns-in-Some : goal.returns-in-Some
returns-in-Some c = inl c.in-Some.ensures

pub last_other-requires : goal.last_other-requires
last_other-requires c = record { shared = c.requires; none = c.in-None.ensures }

pub returns-in-None : goal.returns-in-None
returns-in-None c = nearest-or-none c.args.self.now.packages c.args.dependency.now
    c.last_other.result c.in-None.ensures c.last_other.ensures
