use Rattle.std.proofs.Common.{◌∙◌, ◌++◌, List, ℕ, ap, sym}
use Rattle.std.proofs.lemmas.Bool.{false≢true}
use Rattle.cargo_lock_diagram.specs.Arrows.{arrows_to}
use Rattle.cargo_lock_diagram.specs.declared.scene.Arrow.{Arrow}
use Rattle.cargo_lock_diagram.proofs.Arrowing.{node-pass, node-put}
use Rattle.cargo_lock_diagram.proofs.scene.add_arrows_from.Goals as goal

pub returns-in_ok-add_arrows : goal.returns-in_ok-add_arrows
returns-in_ok-add_arrows c =
    let node : ℕ = c.args.node in
    let old : List Arrow = c.args.arrows.now.items in
    node-put c.args.graph.now c.args.marks.now node c.in_ok-targets.targets.items old c.add_arrows.new.arrows.items c.requires.count
    (c.has_mark.ensures.0 c.if-has_mark.true) c.in_ok-targets.ensures
    (c.in_ok-add_arrows.ensures ∙ ap (λ (ts : List ℕ). old ++ arrows_to c.args.marks.now node ts) c.deref.ensures.value) c.requires.arrows

pub returns-else-has_mark : goal.returns-else-has_mark
returns-else-has_mark c =
    node-pass c.args.graph.now c.args.marks.now c.args.node c.args.arrows.now.items
    (λ h. false≢true (sym c.if-has_mark.false ∙ c.has_mark.ensures.1 h)) c.requires.arrows
