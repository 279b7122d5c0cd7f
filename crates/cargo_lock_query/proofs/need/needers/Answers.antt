use Rattle.std.proofs.Common.{ℕ, length}
use Rattle.std.specs.List.{Contains}
use Rattle.std.proofs.lemmas.Result.{IfOk-weaker}
use Rattle.cargo_lock_graph.specs.Edges.{far_ends}
use Rattle.cargo_lock_graph.specs.declared.graph.EdgeDirection.TheVariants.{Incoming}
use Rattle.cargo_lock_query.specs.Chains.{needs}
use Rattle.cargo_lock_query.proofs.Needing.{needers-sources, sources-needers}
use Rattle.lists.proofs.Places.{places-alike}
use Rattle.cargo_lock_query.proofs.need.needers.Goals as goal

pub returns : goal.returns
returns c =
    let graph = c.args.graph.now in
    let node = c.args.node in
    IfOk-weaker c.ends_once.result _ _ (λ v h. places-alike (Contains (far_ends Incoming graph.edges node)) (λ (k : ℕ). Contains (needs graph k) node) (length graph.packages) v.items
    (sources-needers graph node) (needers-sources graph node) h) c.ends_once.ensures.places
