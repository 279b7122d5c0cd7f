use Rattle.cargo_lock_c.specs.Statuses.{status_of}
use Rattle.cargo_lock_c.specs.Texts.{RefusesText}
use Rattle.cargo_lock_c.proofs.Refusals.{memory-text, refusal-passed}
use Rattle.cargo_lock_c.proofs.json.document.Goals as goal

pub returns-in_err-line-clause-refused : goal.returns-in_err-line-clause-refused
returns-in_err-line-clause-refused c =
    let refusal = c.in_err-line.field-0.0 in
    refusal-passed (λ refusal. RefusesText c.args.bytes.now (status_of refusal)) c.from_residual-in_err-line.result refusal c.from_residual-in_err-line.ensures.1
    (memory-text c.args.bytes.now refusal c.in_err-line.ensures.err)

pub returns-clause-ok : goal.returns-clause-ok
returns-clause-ok c = (
  c.in_ok-lockfile.lockfile,
  c.in_ok-lockfile.ensures.ok,
  c.in_ok-line.ensures.ok,
)
