use Rattle.std.proofs.Common.{◌≡◌}
use Rattle.toml.specs.View.{members_view}
use Rattle.cargo_lock_table_flaws.specs.Format.{has_checksum_member}
use Rattle.cargo_lock_table_flaws.proofs.format.has_checksum_member.Given as goal

abbrev pub invariant-loop-key : goal.invariant-loop-key
invariant-loop-key l =
    (goal.iterator-loop-key).can_next l.key-iterator
    × (goal.iterator-loop-key).is_finite l.key-iterator
    × (has_checksum_member (members_view l.key-iterator) ≡ has_checksum_member (members_view l.table.entries))
