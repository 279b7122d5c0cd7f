use Rattle.std.proofs.Common.{take}
use Rattle.std.specs.BTreeSet.{contains_text}
use Rattle.cargo_lock_bom.proofs.Seen.{AreSeen}
use Rattle.cargo_lock_bom.proofs.reference.check_distinct.Given as goal

-- the set has the texts of the packages so far, and they are distinct
abbrev pub invariant-loop-node : goal.invariant-loop-node
invariant-loop-node l = AreSeen (take l.node l.graph.packages) (contains_text l.seen)
