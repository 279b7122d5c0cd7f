use Rattle.std.proofs.Common.{◌∙◌, sym}
use Rattle.cargo_lock_graph.proofs.EdgeChains.{range-next, first-goes}
use Rattle.cargo_lock_graph.proofs.graph.NodeIndicesIterator.next.Goals as goal

pub returns-then-self-clause-steps : goal.returns-then-self-clause-steps
returns-then-self-clause-steps c = sym c.self.view_is ∙ range-next c.self.inside.next c.self.inside.count c.if-self.true

pub returns-then-self-clause-goes : goal.returns-then-self-clause-goes
returns-then-self-clause-goes c =
    let steps = sym c.self.view_is ∙ range-next c.self.inside.next c.self.inside.count c.if-self.true in
    record { on = λ _. (tt, tt, first-goes _ _ _ steps); keeps = tt; rests = λ _. tt }
