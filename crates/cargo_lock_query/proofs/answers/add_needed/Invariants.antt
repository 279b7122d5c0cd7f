use Rattle.std.proofs.Common.{◌≡◌, ◌++◌, Global, ℕ, Vec, map, take}
use Rattle.cargo_lock_query.specs.Answers.{needed_by}
use Rattle.cargo_lock_query.specs.Lines.{answer_of}
use Rattle.cargo_lock_query.proofs.answers.add_needed.Given as goal

-- the answers by the chains so far
abbrev pub invariant-loop-chain : goal.invariant-loop-chain
invariant-loop-chain l = map answer_of l.answers.items
    ≡ map answer_of l.initial.answers.items ++ map (λ (chain : Vec ℕ Global). needed_by l.graph.packages l.asked chain.items) (take l.chain-index l.chains)
