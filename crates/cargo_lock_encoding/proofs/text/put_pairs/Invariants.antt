use Rattle.std.proofs.Common.{◌≡◌, ◌++◌, map, string_bytes}
use Rattle.cargo_lock_lines.specs.Layout.{join_lines, pair_line}
use Rattle.cargo_lock_encoding.proofs.text.put_pairs.Given as goal

abbrev pub invariant-loop-key : goal.invariant-loop-key
invariant-loop-key l =
    (goal.iterator-loop-key).can_next l.key-iterator
    × (goal.iterator-loop-key).is_finite l.key-iterator
    × (string_bytes l.out ++ join_lines (map pair_line l.key-iterator) ≡ string_bytes l.fn.out ++ join_lines (map pair_line l.metadata.entries))
