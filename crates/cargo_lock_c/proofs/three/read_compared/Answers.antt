use Rattle.cargo_lock_c.specs.Statuses.{status_of}
use Rattle.cargo_lock_c.specs.Texts.{RefusesText}
use Rattle.cargo_lock_c.proofs.Refusals.{memory-text, refusal-passed}
use Rattle.cargo_lock_c.proofs.three.read_compared.Goals as goal

pub returns-in_err-whole-clause-refused : goal.returns-in_err-whole-clause-refused
returns-in_err-whole-clause-refused c =
    let refusal = c.in_err-whole.field-0.0 in
    refusal-passed (λ refusal. RefusesText c.args.bytes.now (status_of refusal)) c.from_residual-in_err-whole.result refusal c.from_residual-in_err-whole.ensures.1
    (memory-text c.args.bytes.now refusal c.in_err-whole.ensures.err)

pub returns-clause-ok : goal.returns-clause-ok
returns-clause-ok c = (c.in_ok-lockfile.lockfile, c.in_ok-lockfile.ensures.ok, rw c.in_ok-whole.ensures.ok at c.in_ok-input.ensures.ok)
