use Rattle.std.proofs.Common.{◌≡◌, All, map, take}
use Rattle.cargo_lock_query.specs.Needers.{AreNeeders}
use Rattle.cargo_lock_query.specs.declared.repeated.Duplicate.{Duplicate}
use Rattle.cargo_lock_query.proofs.repeated.group_with_needers.Given as goal

-- the packages so far, each with its needers
abbrev pub invariant-loop-place : goal.invariant-loop-place
invariant-loop-place l = (map (λ (one : Duplicate). one.node) l.group.items ≡ take l.place-index l.places)
    × All (λ (one : Duplicate). AreNeeders l.graph one.node one.needers.items) l.group.items
