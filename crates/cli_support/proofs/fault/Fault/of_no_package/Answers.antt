use Rattle.std.proofs.Common.{inr, refl}
use Rattle.cli_support.proofs.fault.Fault.of_no_package.Goals as goal

pub returns-in-Ok : goal.returns-in-Ok
returns-in-Ok c = inr (c.in-Ok.spec, refl, c.in-Ok.ensures.ok)
