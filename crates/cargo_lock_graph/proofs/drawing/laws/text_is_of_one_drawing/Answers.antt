use Rattle.std.proofs.Common.{List, ℕ, [], subst}
use Rattle.cargo_lock_graph.specs.DrawingLines.{TellAll, cut}
use Rattle.cargo_lock_graph.specs.DrawingText.{drawing_text, standard_symbols}
use Rattle.cargo_lock_graph.proofs.DrawingLines.{told_of}
use Rattle.cargo_lock_graph.proofs.DrawingOfText.{all-told}
use Rattle.cargo_lock_graph.proofs.drawing.laws.text_is_of_one_drawing.Goals as goal

pub returns : goal.returns
returns c far gar start other label es fs is_es is_fs plain_es plain_fs apart same =
    let text = drawing_text standard_symbols label fs in
    let t = subst (λ (x : List ℕ). TellAll label es (cut [] x)) same (told_of far start label es is_es plain_es) in
    let u = told_of gar other label fs is_fs plain_fs in
    all-told label start other es fs is_es.first.0 is_fs.first.0 (cut [] text) is_es.first.1 is_fs.first.1 apart t u
