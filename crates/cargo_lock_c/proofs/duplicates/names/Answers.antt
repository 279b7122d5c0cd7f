use Rattle.std.proofs.Common.{◌≡◌}
use Rattle.cargo_lock_c.specs.Graph.{IsUnresolvedText}
use Rattle.cargo_lock_c.specs.Statuses.{status_of}
use Rattle.cargo_lock_c.specs.Texts.{RefusesText}
use Rattle.cargo_lock_c.proofs.GraphTexts.{unresolved-text}
use Rattle.cargo_lock_c.proofs.Refusals.{memory-text, refusal-passed}
use Rattle.cargo_lock_c.proofs.duplicates.names.Goals as goal

pub returns-in_err-graph-clause-unresolved : goal.returns-in_err-graph-clause-unresolved
returns-in_err-graph-clause-unresolved c =
    let refusal = c.in_err-graph.field-0.0 in
    refusal-passed (λ refusal. status_of refusal ≡ 7 → IsUnresolvedText c.args.bytes.now) c.from_residual-in_err-graph.result refusal c.from_residual-in_err-graph.ensures.1
    (unresolved-text c.args.bytes.now c.in_ok-lockfile.lockfile refusal c.in_ok-lockfile.ensures.ok c.in_err-graph.ensures.err)

pub returns-in_err-names-clause-refused : goal.returns-in_err-names-clause-refused
returns-in_err-names-clause-refused c =
    let refusal = c.in_err-names.field-0.0 in
    refusal-passed (λ refusal. RefusesText c.args.bytes.now (status_of refusal)) c.from_residual-in_err-names.result refusal c.from_residual-in_err-names.ensures.1
    (memory-text c.args.bytes.now refusal c.in_err-names.ensures.err)

pub returns-clause-ok : goal.returns-clause-ok
returns-clause-ok c = (
  c.in_ok-lockfile.lockfile,
  c.in_ok-graph.graph,
  c.in_ok-lockfile.ensures.ok,
  c.in_ok-graph.ensures.ok,
  c.in_ok-names.ensures.ok,
)
