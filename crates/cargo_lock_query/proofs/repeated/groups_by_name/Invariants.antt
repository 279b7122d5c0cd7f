use Rattle.lists.specs.Groups.{AreGroups}
use Rattle.cargo_lock_query.specs.Groups.{IsNamedBy, name_cmp}
use Rattle.cargo_lock_query.proofs.repeated.groups_by_name.Given as goal

-- the groups of the packages so far
abbrev pub invariant-loop-place : goal.invariant-loop-place
invariant-loop-place l = AreGroups name_cmp (IsNamedBy l.graph.packages) l.place l.groups
