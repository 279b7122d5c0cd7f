use Rattle.cargo_lock_report.proofs.Uris.{uris-are-clean}
use Rattle.cargo_lock_report.proofs.laws.uris_are_clean.Goals as goal

pub returns : goal.returns
returns c = uris-are-clean
