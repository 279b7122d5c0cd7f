use Rattle.std.proofs.Common.{◌≡◌, drop}
use Rattle.toml.specs.View.{items_view}
use Rattle.cargo_lock_encoding.specs.LongTexts.{IsLongText, SomeItem}
use Rattle.toml_fields.specs.Fields.{read_all}
use Rattle.cargo_lock_encoding.specs.TableReading.{reference_in}
use Rattle.cargo_lock_references.proofs.Walk.{after}
use Rattle.cargo_lock_encoding.proofs.read_table.references_of.Given as goal

abbrev pub invariant-loop-value : goal.invariant-loop-value
invariant-loop-value l =
    (after l.references.items (read_all reference_in (items_view (drop l.value-index l.list)))
    ≡ read_all reference_in (items_view l.list))
    × (SomeItem IsLongText (items_view (drop l.value-index l.list)) → SomeItem IsLongText (items_view l.list))
