use Rattle.std.proofs.Common.{◌≡◌, take}
use Rattle.cargo_lock_bom.proofs.dependencies.ends.Given as goal

-- the nodes so far
abbrev pub invariant-loop-end : goal.invariant-loop-end
invariant-loop-end l = l.ends.items ≡ take l.end-index l.end-items
