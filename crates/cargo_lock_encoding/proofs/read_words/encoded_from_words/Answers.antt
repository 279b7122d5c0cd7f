use Rattle.cargo_lock_encoding.proofs.WordTables.{ReadsUrls-words}
use Rattle.cargo_lock_encoding.proofs.read_words.encoded_from_words.Goals as goal

pub returns : goal.returns
returns c = ReadsUrls-words _ c.args.words.now c.values_from.result c.values_from.ensures
