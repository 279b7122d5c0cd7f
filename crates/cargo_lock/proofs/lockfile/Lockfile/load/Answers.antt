use Rattle.cargo_lock.proofs.LoadLemmas.{refusal_of_text}
use Rattle.cargo_lock.proofs.lockfile.Lockfile.load.Goals as goal

pub returns-clause-err : goal.returns-clause-err
returns-clause-err g c = refusal_of_text _ c.from_str.result c.from_str.ensures.read
