use Rattle.std.proofs.Common.{refl}
use Rattle.cli.proofs.checked.Checked.nothing.Goals as goal

pub returns : goal.returns
returns c = λ form. record { told = c.nothing.ensures form; packages = refl; findings = refl }
