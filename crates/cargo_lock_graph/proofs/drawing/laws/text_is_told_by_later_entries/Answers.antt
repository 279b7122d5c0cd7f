use Rattle.cargo_lock_graph.proofs.PrefixLemmas.{drawn_same}
use Rattle.cargo_lock_graph.proofs.DrawingWords.{from_words}
use Rattle.cargo_lock_graph.proofs.drawing.laws.text_is_told_by_later_entries.Goals as goal

pub returns : goal.returns
returns c far start es s label d = drawn_same far start es s label (from_words far start es d)
