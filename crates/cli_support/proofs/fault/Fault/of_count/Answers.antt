use Rattle.std.proofs.Common.{inr, refl}
use Rattle.cli_support.proofs.fault.Fault.of_count.Goals as goal

pub returns-in-Ok-clause-many : goal.returns-in-Ok-clause-many
returns-in-Ok-clause-many c = λ _. inr (c.in-Ok.spec, refl, c.in-Ok.ensures.ok)
