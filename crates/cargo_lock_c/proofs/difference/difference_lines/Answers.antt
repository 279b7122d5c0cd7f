use Rattle.cargo_lock_c.specs.Differences.{ReadsOldText, RefusesNewText}
use Rattle.cargo_lock_c.specs.Statuses.{status_of}
use Rattle.cargo_lock_c.specs.Texts.{RefusesText}
use Rattle.cargo_lock_c.proofs.Refusals.{below-new, below-old, memory-new, memory-text, new-says-nothing, refusal-passed}
use Rattle.cargo_lock_c.proofs.difference.difference_lines.Goals as goal

pub returns-in_err-before-clause-refused_new : goal.returns-in_err-before-clause-refused_new
returns-in_err-before-clause-refused_new c =
    refusal-passed (λ refusal. RefusesNewText c.args.new.now (status_of refusal)) c.from_residual.result c.in_err-before.field-0.0 c.from_residual.ensures.1
    (below-new c.args.new.now _ c.in_err-before.ensures.below)

pub returns-in_err-before-clause-read_old : goal.returns-in_err-before-clause-read_old
returns-in_err-before-clause-read_old c =
    refusal-passed (λ refusal. ReadsOldText c.args.old.now (status_of refusal)) c.from_residual.result c.in_err-before.field-0.0 c.from_residual.ensures.1
    (below-old c.args.old.now _ c.in_err-before.ensures.below)

pub returns-in_err-after-clause-refused : goal.returns-in_err-after-clause-refused
returns-in_err-after-clause-refused c =
    refusal-passed (λ refusal. RefusesText c.args.old.now (status_of refusal)) c.from_residual-in_err-after.result c.in_err-after.field-0.0 c.from_residual-in_err-after.ensures.1
    (new-says-nothing c.args.old.now _ c.in_err-after.ensures.kind)

pub returns-in_err-after-clause-read_old : goal.returns-in_err-after-clause-read_old
returns-in_err-after-clause-read_old c =
    refusal-passed (λ refusal. ReadsOldText c.args.old.now (status_of refusal)) c.from_residual-in_err-after.result c.in_err-after.field-0.0 c.from_residual-in_err-after.ensures.1
    (λ _. (c.in_ok-before.before, c.in_ok-before.ensures.ok))

pub returns-in_err-lines-clause-refused : goal.returns-in_err-lines-clause-refused
returns-in_err-lines-clause-refused c =
    refusal-passed (λ refusal. RefusesText c.args.old.now (status_of refusal)) c.from_residual-in_err-lines.result c.in_err-lines.field-0.0 c.from_residual-in_err-lines.ensures.1
    (memory-text c.args.old.now _ c.in_err-lines.ensures.err)

pub returns-in_err-lines-clause-refused_new : goal.returns-in_err-lines-clause-refused_new
returns-in_err-lines-clause-refused_new c =
    refusal-passed (λ refusal. RefusesNewText c.args.new.now (status_of refusal)) c.from_residual-in_err-lines.result c.in_err-lines.field-0.0 c.from_residual-in_err-lines.ensures.1
    (memory-new c.args.new.now _ c.in_err-lines.ensures.err)

pub returns-in_err-lines-clause-read_old : goal.returns-in_err-lines-clause-read_old
returns-in_err-lines-clause-read_old c =
    refusal-passed (λ refusal. ReadsOldText c.args.old.now (status_of refusal)) c.from_residual-in_err-lines.result c.in_err-lines.field-0.0 c.from_residual-in_err-lines.ensures.1
    (λ _. (c.in_ok-before.before, c.in_ok-before.ensures.ok))

pub returns-clause-ok : goal.returns-clause-ok
returns-clause-ok c = (c.in_ok-before.before, c.in_ok-after.after, c.in_ok-before.ensures.ok, c.in_ok-after.ensures.ok, c.in_ok-lines.ensures.ok)
