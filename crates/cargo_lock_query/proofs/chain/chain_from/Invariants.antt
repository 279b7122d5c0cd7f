use Rattle.cargo_lock_query.proofs.Walking.{IsWalk}
use Rattle.cargo_lock_query.proofs.chain.chain_from.Given as goal

-- what is best from the last node on is best from the root on
abbrev pub invariant-walk : goal.invariant-walk
invariant-walk l = IsWalk l.graph l.steps l.to l.fn.root.node l.last l.chain.items

abbrev pub decreases-walk : goal.decreases-walk
decreases-walk l = l.last.steps
