use Rattle.std.proofs.Common.{◌≡◌, ◌*◌, ◌^◌, ◌≤◌, map, take}
use Rattle.cargo_lock_query.specs.Tally.{group_of_rows, versions_of_all}
use Rattle.cargo_lock_query.proofs.tally.versions.Given as goal

-- the sum so far, and that it fits
abbrev pub invariant-loop-group : goal.invariant-loop-group
invariant-loop-group l = (l.versions ≡ versions_of_all (map group_of_rows (take l.group-index l.groups))) × (l.versions ≤ l.group-index * 2 ^ 64)
