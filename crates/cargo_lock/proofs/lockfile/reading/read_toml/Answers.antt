use Rattle.cargo_lock_encoding.proofs.MeansLemmas.{FindsUrls-means, FindsUrls-refused, FindsUrls-text}
use Rattle.cargo_lock.proofs.lockfile.reading.read_toml.Goals as goal

pub returns-in-Ok : goal.returns-in-Ok
returns-in-Ok c =
    FindsUrls-text _ c.args.text.now _ c.read_once.result c.in-Ok.ensures.ok (FindsUrls-means _ _ c.read_once.result c.read_once.ensures)

pub returns-in-Err : goal.returns-in-Err
returns-in-Err c = FindsUrls-refused c.args.text.now c.toml_error.result _ c.toml_error.ensures c.in-Err.ensures.refused
