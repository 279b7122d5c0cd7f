use Rattle.std.proofs.Common.{◌∙◌, ◌++◌, Global, List, Vec, true, ℕ, ap, map, refl, sym}
use Rattle.cargo_lock_query.specs.Answers.{answers_by}
use Rattle.cargo_lock_query.specs.Lines.{AnswerData, answer_of}
use Rattle.cargo_lock_query.proofs.Answering.{answers-next}
use Rattle.cargo_lock_query.proofs.answers.each_answer.Goals as goal

pub loop-node-preserved : goal.loop-node-preserved
loop-node-preserved c =
    let graph = c.args.graph.now in
    let items : Vec ℕ Global → List ℕ = λ (chain : Vec ℕ Global). chain.items in
    let said = c.in_ok-chains.ensures in
    let asked = c.index.result.now in
    let own : List (Vec ℕ Global) → List AnswerData = λ (chains : List (Vec ℕ Global)). answers_by graph.packages asked (map items chains) in
    answers-next true graph c.args.nodes.now c.loop-node.node-index c.node-item.result (map answer_of c.loop-node.answers.items) (own c.in_ok-chains.chains.items)
    (map answer_of c.add_answers_by.new.answers.items) c.loop-node-test.true c.node-item.is c.loop-node.invariant
    (record { starts = said.0; chains = map items c.in_ok-chains.chains.items; asked = asked; from = said.1; chosen = said.2; at = sym c.index.ensures; said = refl })
    (c.in_ok-add_answers_by.ensures ∙ ap (λ (chains : List (Vec ℕ Global)). map answer_of c.loop-node.answers.items ++ own chains) c.deref.ensures.value)
