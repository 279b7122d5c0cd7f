use Rattle.std.proofs.Common.{Global, Vec, map, take}
use Rattle.std.specs.List.{AllZip}
use Rattle.cargo_lock_query.specs.Tally.{IsGroupOf, group_of_rows}
use Rattle.cargo_lock_query.specs.declared.repeated.Duplicate.{Duplicate}
use Rattle.cargo_lock_query.proofs.tally.Listing.of.Given as goal

-- the groups so far
abbrev pub invariant-loop-group : goal.invariant-loop-group
invariant-loop-group l = AllZip (IsGroupOf l.graph.packages) (map (λ (group : Vec Duplicate Global). group.items) (take l.group-index l.groups)) (map group_of_rows l.made.items)
