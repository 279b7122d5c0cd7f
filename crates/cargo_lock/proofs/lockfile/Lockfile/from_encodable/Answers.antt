use Rattle.cargo_lock_encoding.proofs.MeansLemmas.{Finds-lockfile_of}
use Rattle.cargo_lock.proofs.lockfile.Lockfile.from_encodable.Goals as goal

pub returns : goal.returns
returns c = Finds-lockfile_of c.args.values c.lockfile_of.result c.lockfile_of.ensures
