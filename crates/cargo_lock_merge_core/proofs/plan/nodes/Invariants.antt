use Rattle.std.proofs.Common.{take}
use Rattle.std.specs.List.{AllZip}
use Rattle.cargo_lock_merge_core.specs.Plans.{IsNodeOf}
use Rattle.cargo_lock_merge_core.proofs.plan.nodes.Given as goal

abbrev pub invariant-loop-entry : goal.invariant-loop-entry
invariant-loop-entry l = AllZip IsNodeOf (take l.entry-index l.entries) l.nodes.items
