use Rattle.std.proofs.Common.{◌≡◌, drop}
use Rattle.toml.specs.View.{items_view}
use Rattle.cargo_lock_encoding.specs.LongTexts.{IsLongPatch, SomeItem}
use Rattle.toml_fields.specs.Fields.{read_all}
use Rattle.cargo_lock_encoding.specs.TableReading.{unused_patch_in}
use Rattle.cargo_lock_references.proofs.Walk.{after}
use Rattle.cargo_lock_encoding.proofs.read_table.patches_of.Given as goal

abbrev pub invariant-loop-value : goal.invariant-loop-value
invariant-loop-value l =
    (after l.patches.items (read_all unused_patch_in (items_view (drop l.value-index l.list)))
    ≡ read_all unused_patch_in (items_view l.list))
    × (SomeItem IsLongPatch (items_view (drop l.value-index l.list)) → SomeItem IsLongPatch (items_view l.list))
