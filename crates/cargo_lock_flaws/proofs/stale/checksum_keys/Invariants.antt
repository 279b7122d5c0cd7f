use Rattle.std.proofs.Common.{◌≡◌, ◌++◌, map}
use Rattle.std.specs.List.{filter}
use Rattle.cargo_lock_flaws.specs.Stale.{is_of_checksum}
use Rattle.cargo_lock_flaws.proofs.stale.checksum_keys.Given as goal

abbrev pub invariant-loop-key : goal.invariant-loop-key
invariant-loop-key l =
    (goal.iterator-loop-key).can_next l.key-iterator
    × (goal.iterator-loop-key).is_finite l.key-iterator
    × (map (λ e. e.0) (filter is_of_checksum l.metadata.entries) ≡ l.keys.items ++ map (λ e. e.0) (filter is_of_checksum l.key-iterator))
