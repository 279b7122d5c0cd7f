use Rattle.std.proofs.Common.{map, take, true}
use Rattle.cargo_lock_query.specs.Answers.{AreAnswers}
use Rattle.cargo_lock_query.specs.Lines.{answer_of}
use Rattle.cargo_lock_query.proofs.answers.each_answer.Given as goal

-- the answers about the nodes so far
abbrev pub invariant-loop-node : goal.invariant-loop-node
invariant-loop-node l = AreAnswers true l.graph (take l.node-index l.nodes) (map answer_of l.answers.items)
