use Rattle.cargo_lock_references.proofs.ReadBackLemmas.{same-version}
use Rattle.cargo_lock_references.proofs.read_back.version_reads_as.Goals as goal

pub returns-in-Ok : goal.returns-in-Ok
returns-in-Ok c = same-version _ _ _ c.same_version.result c.in-Ok.ensures c.same_version.ensures
