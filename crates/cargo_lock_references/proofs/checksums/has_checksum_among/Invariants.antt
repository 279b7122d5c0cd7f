use Rattle.std.proofs.Common.{◌≡◌}
use Rattle.std.specs.List.{list_any}
use Rattle.cargo_lock_references.specs.Metadata.{is_checksum}
use Rattle.cargo_lock_references.proofs.checksums.has_checksum_among.Given as goal

abbrev pub invariant-loop-key : goal.invariant-loop-key
invariant-loop-key l =
    (goal.iterator-loop-key).can_next l.key-iterator
    × (goal.iterator-loop-key).is_finite l.key-iterator
    × (list_any (λ e. is_checksum e.0) l.key-iterator ≡ list_any (λ e. is_checksum e.0) l.metadata.entries)
