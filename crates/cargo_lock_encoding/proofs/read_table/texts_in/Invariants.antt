use Rattle.std.proofs.Common.{◌≡◌, option_map}
use Rattle.std.specs.FinMap.{empty}
use Rattle.toml.specs.View.{members_view}
use Rattle.cargo_lock_references.specs.Records.{texts_of}
use Rattle.cargo_lock_encoding.specs.TableReading.{pairs_in, put_all}
use Rattle.cargo_lock_encoding.proofs.read_table.texts_in.Given as goal

abbrev pub invariant-loop-key : goal.invariant-loop-key
invariant-loop-key l =
    (goal.iterator-loop-key).can_next l.key-iterator
    × (goal.iterator-loop-key).is_finite l.key-iterator
    × (option_map (put_all (texts_of l.metadata.entries)) (pairs_in (members_view l.key-iterator))
    ≡ option_map (put_all empty) (pairs_in (members_view l.table.entries)))
