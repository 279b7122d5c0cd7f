use Rattle.std.proofs.Common.{List}
use Rattle.std.proofs.lemmas.Result.{IfErr-weaker}
use Rattle.cargo_lock_parts.specs.Identity.{PackageData}
use Rattle.cargo_lock_edges.proofs.SettledGraph.{both-oks, settled-fault, settled-graph}
use Rattle.cargo_lock_edges.proofs.graph.own_graph.Goals as goal

pub returns-clause-ok : goal.returns-clause-ok
returns-clause-ok c =
    let settled : List PackageData = c.in_ok-settled.settled.items in
    both-oks c.graph_from.result _ _ _
    (λ graph same edges. settled-graph c.args.packages.now settled _ c.in_ok-settled.ensures.ok same edges)
    c.graph_from.ensures.packages c.graph_from.ensures.edges

pub returns-clause-err : goal.returns-clause-err
returns-clause-err c =
    IfErr-weaker c.graph_from.result _ _
    (λ e h. settled-fault c.args.packages.now c.in_ok-settled.settled.items e c.in_ok-settled.ensures.ok h)
    c.graph_from.ensures.err
