use Rattle.std.proofs.Common.{◌≡◌}
use Rattle.toml.specs.Data.{no_members}
use Rattle.toml.specs.View.{table_view}
use Rattle.cargo_lock_encoding.proofs.TextPuts.{put_texts}
use Rattle.cargo_lock_encoding.proofs.table.text_table.Given as goal

abbrev pub invariant-loop-key : goal.invariant-loop-key
invariant-loop-key l =
    (goal.iterator-loop-key).can_next l.key-iterator
    × (goal.iterator-loop-key).is_finite l.key-iterator
    × (put_texts (table_view l.table) l.key-iterator ≡ put_texts no_members l.metadata.entries)
