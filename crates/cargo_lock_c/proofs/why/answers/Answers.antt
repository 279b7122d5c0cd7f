use Rattle.std.proofs.Common.{◌≡◌, ◌≤◌, ◌⊎◌}
use Rattle.cargo_lock_c.specs.Documents.{FitsNone}
use Rattle.cargo_lock_c.specs.Graph.{IsUnresolvedText}
use Rattle.cargo_lock_c.specs.Statuses.{status_of}
use Rattle.cargo_lock_c.specs.Texts.{RefusesText}
use Rattle.cargo_lock_c.proofs.GraphTexts.{unresolved-text}
use Rattle.cargo_lock_c.proofs.Refusals.{refusal-passed}
use Rattle.cargo_lock_c.proofs.Unanswered.{SaysOfSpec, no-answer}
use Rattle.cargo_lock_c.proofs.why.answers.Goals as goal

pub returns-in_err-graph-clause-unresolved : goal.returns-in_err-graph-clause-unresolved
returns-in_err-graph-clause-unresolved c =
    let refusal = c.in_err-graph.field-0.0 in
    refusal-passed (λ refusal. status_of refusal ≡ 7 → IsUnresolvedText c.args.bytes.now) c.from_residual-in_err-graph.result refusal c.from_residual-in_err-graph.ensures.1
    (unresolved-text c.args.bytes.now c.in_ok-lockfile.lockfile refusal c.in_ok-lockfile.ensures.ok c.in_err-graph.ensures.err)

pub returns-in_err-answers-clause-unresolved : goal.returns-in_err-answers-clause-unresolved
returns-in_err-answers-clause-unresolved c =
    let refusal = c.in_err-answers.field-0.0 in
    let says : SaysOfSpec c.args.bytes.now c.args.spec.now (status_of refusal) = no-answer c.args.bytes.now c.args.spec.now c.in_ok-lockfile.lockfile refusal c.in_ok-lockfile.ensures.ok c.in_err-answers.ensures.err in
    refusal-passed (λ refusal. status_of refusal ≡ 7 → IsUnresolvedText c.args.bytes.now) c.from_residual-in_err-answers.result refusal c.from_residual-in_err-answers.ensures.1
    says.unresolved

pub returns-in_err-answers-clause-nothing_fits : goal.returns-in_err-answers-clause-nothing_fits
returns-in_err-answers-clause-nothing_fits c =
    let refusal = c.in_err-answers.field-0.0 in
    let says : SaysOfSpec c.args.bytes.now c.args.spec.now (status_of refusal) = no-answer c.args.bytes.now c.args.spec.now c.in_ok-lockfile.lockfile refusal c.in_ok-lockfile.ensures.ok c.in_err-answers.ensures.err in
    refusal-passed (λ refusal. status_of refusal ≡ 13 → FitsNone c.args.bytes.now c.args.spec.now) c.from_residual-in_err-answers.result refusal c.from_residual-in_err-answers.ensures.1
    says.nothing_fits

pub returns-in_err-answers-clause-refused : goal.returns-in_err-answers-clause-refused
returns-in_err-answers-clause-refused c =
    let refusal = c.in_err-answers.field-0.0 in
    let says : SaysOfSpec c.args.bytes.now c.args.spec.now (status_of refusal) = no-answer c.args.bytes.now c.args.spec.now c.in_ok-lockfile.lockfile refusal c.in_ok-lockfile.ensures.ok c.in_err-answers.ensures.err in
    refusal-passed (λ refusal. RefusesText c.args.bytes.now (status_of refusal)) c.from_residual-in_err-answers.result refusal c.from_residual-in_err-answers.ensures.1
    says.refused

pub returns-in_err-answers-clause-kind : goal.returns-in_err-answers-clause-kind
returns-in_err-answers-clause-kind c =
    let refusal = c.in_err-answers.field-0.0 in
    let says : SaysOfSpec c.args.bytes.now c.args.spec.now (status_of refusal) = no-answer c.args.bytes.now c.args.spec.now c.in_ok-lockfile.lockfile refusal c.in_ok-lockfile.ensures.ok c.in_err-answers.ensures.err in
    refusal-passed (λ refusal. (status_of refusal ≤ 3) ⊎ (status_of refusal ≡ 7) ⊎ (status_of refusal ≡ 13)) c.from_residual-in_err-answers.result refusal c.from_residual-in_err-answers.ensures.1
    says.kind

pub returns-clause-ok : goal.returns-clause-ok
returns-clause-ok c = (
  c.in_ok-lockfile.lockfile,
  c.in_ok-graph.graph,
  c.in_ok-lockfile.ensures.ok,
  c.in_ok-graph.ensures.ok,
  c.in_ok-answers.ensures.ok,
)
