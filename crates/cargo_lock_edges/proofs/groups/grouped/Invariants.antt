use Rattle.cargo_lock_edges.specs.Groups.{AreInGroups}
use Rattle.cargo_lock_edges.proofs.groups.grouped.Given as goal

-- the packages so far without a mark are in their groups
abbrev pub invariant-loop-place : goal.invariant-loop-place
invariant-loop-place l = AreInGroups l.packages l.place l.only l.groups
