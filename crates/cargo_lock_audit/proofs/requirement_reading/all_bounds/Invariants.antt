use Rattle.std.proofs.Common.{◌≡◌, drop, map}
use Rattle.semver.specs.Identifiers.{comparator_view}
use Rattle.cargo_lock_audit.specs.RequirementReading.{all_bounds}
use Rattle.cargo_lock_audit.proofs.Walk.{after}
use Rattle.cargo_lock_audit.proofs.requirement_reading.all_bounds.Given as goal

-- the bounds so far, before those of the other comparators, are all bounds
abbrev pub invariant-loop-comparator : goal.invariant-loop-comparator
invariant-loop-comparator l =
    after l.bounds.items (all_bounds (map comparator_view (drop l.comparator-index l.comparators)))
    ≡ all_bounds (map comparator_view l.comparators)
