use Rattle.std.proofs.Common.{◌≡◌, ◌∙◌, ap, length}
use Rattle.std.proofs.lemmas.Slice.Zip.{AllZip-long}
use Rattle.cargo_lock_graph.specs.Edges.{GraphData}
use Rattle.cargo_lock_edges.specs.OwnGraph.{IsAlikeButForWords}
use Rattle.cargo_lock_encoding.specs.Lockfiles.{LockfileData}
use Rattle.cargo_lock_c.specs.Graph.{IsUnresolvedText, edge_list}
use Rattle.cargo_lock_c.specs.Statuses.{status_of}
use Rattle.cargo_lock_c.specs.Texts.{RefusesText}
use Rattle.cargo_lock_c.proofs.GraphTexts.{unresolved-text}
use Rattle.cargo_lock_c.proofs.Refusals.{memory-text, refusal-passed}
use Rattle.cargo_lock_c.proofs.edges.edges.Goals as goal

pub returns-in_err-graph-clause-unresolved : goal.returns-in_err-graph-clause-unresolved
returns-in_err-graph-clause-unresolved c =
    let refusal = c.in_err-graph.field-0.0 in
    refusal-passed (λ refusal. status_of refusal ≡ 7 → IsUnresolvedText c.args.bytes.now) c.from_residual-in_err-graph.result refusal c.from_residual-in_err-graph.ensures.1
    (unresolved-text c.args.bytes.now c.in_ok-lockfile.lockfile refusal c.in_ok-lockfile.ensures.ok c.in_err-graph.ensures.err)

pub returns-in_err-edges-clause-refused : goal.returns-in_err-edges-clause-refused
returns-in_err-edges-clause-refused c =
    let refusal = c.in_err-edges.field-0.0 in
    refusal-passed (λ refusal. RefusesText c.args.bytes.now (status_of refusal)) c.from_residual-in_err-edges.result refusal c.from_residual-in_err-edges.ensures.1
    (memory-text c.args.bytes.now refusal c.in_err-edges.ensures.err)

pub returns-clause-ok : goal.returns-clause-ok
returns-clause-ok c =
    let l : LockfileData = c.in_ok-lockfile.lockfile in
    let graph : GraphData = c.in_ok-graph.graph in
    let long : length graph.packages ≡ length l.packages = AllZip-long IsAlikeButForWords l.packages graph.packages c.in_ok-graph.ensures.ok.nodes in (
      l,
      graph.edges,
      c.in_ok-lockfile.ensures.ok,
      c.in_ok-graph.ensures.ok.edges,
      c.in_ok-edges.ensures.ok ∙ ap (edge_list graph.edges) long,
    )
