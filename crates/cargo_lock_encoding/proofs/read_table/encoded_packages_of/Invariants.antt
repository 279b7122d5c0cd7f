use Rattle.std.proofs.Common.{◌≡◌, drop}
use Rattle.toml.specs.View.{items_view}
use Rattle.cargo_lock_encoding.specs.LongTexts.{IsLongPackage, SomeItem}
use Rattle.toml_fields.specs.Fields.{read_all}
use Rattle.cargo_lock_encoding.specs.TableReading.{encoded_package_in}
use Rattle.cargo_lock_references.proofs.Walk.{after}
use Rattle.cargo_lock_encoding.proofs.read_table.encoded_packages_of.Given as goal

abbrev pub invariant-loop-value : goal.invariant-loop-value
invariant-loop-value l =
    (after l.listed.items (read_all encoded_package_in (items_view (drop l.value-index l.list)))
    ≡ read_all encoded_package_in (items_view l.list))
    × (SomeItem IsLongPackage (items_view (drop l.value-index l.list)) → SomeItem IsLongPackage (items_view l.list))
