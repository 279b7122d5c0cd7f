use Rattle.cargo_lock_edges.proofs.settled.settled_packages.Goals as goal

pub settled_by-requires : goal.settled_by-requires
settled_by-requires c = c.in_ok-groups.ensures
