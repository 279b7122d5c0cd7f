use Rattle.cargo_lock_query.specs.FirstChains.{linked_by}
use Rattle.cargo_lock_query.proofs.Following.{AreBegun}
use Rattle.cargo_lock_query.proofs.first.FirstChains.begun.Given as goal

-- the starts so far are found
abbrev pub invariant-loop-start : goal.invariant-loop-start
invariant-loop-start l = AreBegun l.fn.graph l.starts l.start-index (linked_by l.chains)
