use Rattle.cargo_lock_report.proofs.Bytes.{properties-are-apart}
use Rattle.cargo_lock_report.proofs.laws.properties_are_apart.Goals as goal

pub returns : goal.returns
returns c = properties-are-apart
