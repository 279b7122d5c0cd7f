use Rattle.std.proofs.Common.{◌∙◌, inr, sym}
use Rattle.std.proofs.lemmas.Option.{IfSome_then}
use Rattle.std.proofs.lemmas.Result.{IfOk-weaker}
use Rattle.cli.proofs.refused.checked_references.Goals as goal

pub returns-in-Some : goal.returns-in-Some
returns-in-Some c = IfOk-weaker c.checked_unresolved.result _ _ (λ found told. IfSome_then found told (λ checked t. (
  t.0,
  (t.1.0, inr (c.in-Some.values, sym c.in_ok-values.ensures.ok ∙ c.in-Some.is, t.1.1), t.1.2),
  t.2,
))) c.checked_unresolved.ensures
