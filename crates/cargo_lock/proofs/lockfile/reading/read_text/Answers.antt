use Rattle.cargo_lock_encoding.proofs.MeansLemmas.{FindsUrls-means, FindsUrls-text}
use Rattle.cargo_lock.proofs.lockfile.reading.read_text.Goals as goal

pub returns-in-Some : goal.returns-in-Some
returns-in-Some c =
    FindsUrls-text _ c.args.text.now _ c.read_words.result (rw c.in-Some.is at c.in_ok-words.ensures) (FindsUrls-means _ _ c.read_words.result c.read_words.ensures)
