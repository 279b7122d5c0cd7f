-- No edge leads from what a bill lists to what it does not list.
use Rattle.std.proofs.Common.{Some, None, [], ◌∷◌, refl}
use Rattle.cargo_lock_graph.specs.declared.graph.EdgeDirection.TheVariants.{Outgoing}
use Rattle.cargo_lock_graph.specs.Edges.{far_ends}
use Rattle.cargo_lock_bom.specs.declared.options.Listed.TheVariants.{All, Reached}
use Rattle.cargo_lock_bom.specs.Root.{ListedIsClosed}
use Rattle.cargo_lock_bom.proofs.Ways.{is_one_of-contains, reachable-join}

pub listed_closed : ListedIsClosed
listed_closed graph All given a b is there = tt
listed_closed graph Reached None a b is there = tt
listed_closed graph Reached (Some root) a b is there =
    let far = far_ends Outgoing graph.edges in
    reachable-join far root a b is (b ∷ [], (is_one_of-contains b (far a) there, refl))
