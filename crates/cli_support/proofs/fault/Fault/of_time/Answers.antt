use Rattle.std.proofs.Common.{inr, refl}
use Rattle.cli_support.proofs.fault.Fault.of_time.Goals as goal

pub returns-in-Ok : goal.returns-in-Ok
returns-in-Ok c = inr (c.in-Ok.text, refl, c.in-Ok.ensures)
