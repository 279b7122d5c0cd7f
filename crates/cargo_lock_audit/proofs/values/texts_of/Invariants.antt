use Rattle.std.proofs.Common.{◌≡◌, drop}
use Rattle.toml.specs.View.{items_view}
use Rattle.toml_fields.specs.Fields.{read_all, text_in}
use Rattle.cargo_lock_audit.specs.Texts.{bytes_of_texts}
use Rattle.cargo_lock_audit.proofs.Walk.{after}
use Rattle.cargo_lock_audit.proofs.values.texts_of.Given as goal

-- the texts so far, before those of the other values, are all texts
abbrev pub invariant-loop-value : goal.invariant-loop-value
invariant-loop-value l =
    after (bytes_of_texts l.texts.items) (read_all text_in (items_view (drop l.value-index l.list)))
    ≡ read_all text_in (items_view l.list)
