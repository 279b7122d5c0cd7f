use Rattle.std.proofs.Common.{◌∙◌, inl, refl, sym}
use Rattle.cargo_lock_licenses.specs.Reading.{tokens_of}
use Rattle.cargo_lock_licenses.proofs.Verdicts.{no-terms, permits-ok}
use Rattle.cargo_lock_licenses.proofs.verdict.is_permitted.Goals as goal

pub returns-then-is_empty : goal.returns-then-is_empty
returns-then-is_empty c =
    let none = no-terms c.args.allowed.now (sym c.is_empty.ensures ∙ c.if-is_empty.true) in
    λ e reads. (λ t. inl none, λ p. refl)

pub returns : goal.returns
returns c = permits-ok c.args.allowed.now (tokens_of c.args.expression.now) c.is_allowed.result (sym c.is_empty.ensures ∙ c.if-is_empty.false) c.is_allowed.ensures
