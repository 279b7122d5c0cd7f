use Rattle.std.proofs.Common.{◌≡◌}
use Rattle.toml.specs.View.{members_view}
use Rattle.cargo_lock_audit.specs.DetailsReading.{functions_at}
use Rattle.cargo_lock_audit.proofs.Walk.{after}
use Rattle.cargo_lock_audit.proofs.details_reading.functions_at.Given as goal

-- the functions so far, before those at the other paths, are all functions
abbrev pub invariant-loop-path : goal.invariant-loop-path
invariant-loop-path l =
    (goal.iterator-loop-path).can_next l.path-iterator
    × (goal.iterator-loop-path).is_finite l.path-iterator
    × (after l.functions.items (functions_at (members_view l.path-iterator)) ≡ functions_at (members_view l.table.entries))
