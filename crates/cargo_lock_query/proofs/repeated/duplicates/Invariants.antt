use Rattle.std.proofs.Common.{◌≡◌, All, ℕ, Global, Vec, map, take}
use Rattle.cargo_lock_query.specs.Needers.{AreNeeders}
use Rattle.cargo_lock_query.specs.declared.repeated.Duplicate.{Duplicate}
use Rattle.cargo_lock_query.proofs.repeated.duplicates.Given as goal

-- the groups so far, each package with its needers
abbrev pub invariant-loop-group : goal.invariant-loop-group
invariant-loop-group l =
    (map (λ (g : Vec Duplicate Global). map (λ (one : Duplicate). one.node) g.items) l.with_needers.items ≡ map (λ (g : Vec ℕ Global). g.items) (take l.group-index l.group-items))
    × All (λ (g : Vec Duplicate Global). All (λ (one : Duplicate). AreNeeders l.graph one.node one.needers.items) g.items) l.with_needers.items
