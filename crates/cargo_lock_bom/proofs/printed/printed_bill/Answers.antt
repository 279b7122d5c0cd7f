use Rattle.std.proofs.Common.{List, inl, inr, string_bytes, subst}
use Rattle.cargo_lock_parts.specs.Identity.{PackageData}
use Rattle.cargo_lock_graph.specs.Targets.{IsUnresolved, links}
use Rattle.cargo_lock_edges.specs.OwnGraph.{IsOwnGraph}
use Rattle.cargo_lock_bom.proofs.OwnBills.{own-fault, unprinted}
use Rattle.cargo_lock_bom.proofs.printed.printed_bill.Goals as goal

pub returns-in_err-graph-clause-err : goal.returns-in_err-graph-clause-err
returns-in_err-graph-clause-err c =
    let e = c.in_err-graph.field-0.0 in
    unprinted c.args.packages.now.items c.from_residual.result e c.from_residual.ensures.1
    (inl (subst (λ (ps : List PackageData). IsUnresolved ps (links ps) e) c.deref.ensures.value
    c.in_err-graph.ensures.err))

pub returns-in_err-text-clause-err : goal.returns-in_err-text-clause-err
returns-in_err-text-clause-err c =
    let packages : List PackageData = c.args.packages.now.items in
    let e = c.in_err-text.field-0.0 in
    let graph = c.in_ok-graph.graph in
    unprinted packages c.from_residual-in_err-text.result e c.from_residual-in_err-text.ensures.1
    (inr (own-fault packages graph e
    (subst (λ (ps : List PackageData). IsOwnGraph ps graph) c.deref.ensures.value c.in_ok-graph.ensures.ok)
    c.in_err-text.ensures.err))

pub returns-clause-ok : goal.returns-clause-ok
returns-clause-ok c = record {
  graph = c.in_ok-graph.graph;
  text = string_bytes c.in_ok-text.text;
  is_graph = subst (λ (ps : List PackageData). IsOwnGraph ps c.in_ok-graph.graph) c.deref.ensures.value
      c.in_ok-graph.ensures.ok;
  reads = c.in_ok-text.ensures.ok;
  layout = c.in_ok-text.ensures.layout;
  ended = c.in_ok-line.ensures;
}
