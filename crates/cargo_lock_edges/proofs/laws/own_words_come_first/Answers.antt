use Rattle.cargo_lock_edges.proofs.OwnLaws.{own_words_come_first}
use Rattle.cargo_lock_edges.proofs.laws.own_words_come_first.Goals as goal

pub returns : goal.returns
returns c = own_words_come_first
