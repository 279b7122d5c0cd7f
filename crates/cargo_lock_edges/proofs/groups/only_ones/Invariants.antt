use Rattle.std.proofs.Common.{◌≡◌, map, take}
use Rattle.cargo_lock_edges.specs.Groups.{is_only_one}
use Rattle.cargo_lock_edges.proofs.groups.only_ones.Given as goal

abbrev pub invariant-loop-place : goal.invariant-loop-place
invariant-loop-place l = l.only.items ≡ map (is_only_one l.packages) (take l.place l.packages)
