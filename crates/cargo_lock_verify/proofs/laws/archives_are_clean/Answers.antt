use Rattle.cargo_lock_verify.proofs.Classes.{archives-are-clean}
use Rattle.cargo_lock_verify.proofs.laws.archives_are_clean.Goals as goal

pub returns : goal.returns
returns c = archives-are-clean
