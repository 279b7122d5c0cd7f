use Rattle.cargo_lock_encoding.proofs.MeansLemmas.{FindsUrls-means}
use Rattle.cargo_lock.proofs.lockfile.Lockfile.from_table.Goals as goal

pub returns : goal.returns
returns c = FindsUrls-means _ _ c.read.result c.read.ensures
