use Rattle.std.proofs.Common.{◌≡◌, drop}
use Rattle.toml.specs.View.{items_view}
use Rattle.cargo_lock_audit.specs.AdvisoryReading.{requirement_in}
use Rattle.toml_fields.specs.Fields.{read_all}
use Rattle.cargo_lock_audit.proofs.Walk.{after}
use Rattle.cargo_lock_audit.proofs.advisory_reading.requirements_of.Given as goal

-- the requirements so far, before those of the other values, are all requirements
abbrev pub invariant-loop-value : goal.invariant-loop-value
invariant-loop-value l =
    after l.requirements.items (read_all requirement_in (items_view (drop l.value-index l.list)))
    ≡ read_all requirement_in (items_view l.list)
