use Rattle.std.proofs.Common.{◌∙◌, ap, sym}
use Rattle.cargo_lock_merge.specs.OwnMetadata.{value_at_key}
use Rattle.cargo_lock_merge.specs.declared.metadata.MetadataMerge.{MetadataMerge}
use Rattle.cargo_lock_merge.proofs.MetadataMerging.{key-apart}
use Rattle.cargo_lock_merge.proofs.metadata.MetadataMerge.put_agreed.Goals as goal
use Rattle.cargo_lock_merge.proofs.metadata.MetadataMerge.put_agreed.Goals.{in-Some+in_ok-clone+in_ok-clone-2+in_ok-insert+in-Some-1, in-Some+in_ok-clone+in_ok-clone-2+in_ok-insert+in-None-1, in_default}

pub returns-clause-others : goal.returns-clause-others
returns-clause-others c =
    elim c.match-value.branch [
      | in-Some+in_ok-clone+in_ok-clone-2+in_ok-insert+in-Some-1 w ↦ record {
        agreed = λ q apart. ap (λ (m : MetadataMerge). value_at_key m.agreed q) w.self-is ∙ w.in_ok-insert.ensures.updates.2 q (key-apart w.in_ok-clone.field-0 q (λ e. apart (sym e ∙ w.in_ok-clone.ensures.cases)));
        conflicts = λ q apart. ap (λ (m : MetadataMerge). value_at_key m.conflicts q) w.self-is;
      }
      | in-Some+in_ok-clone+in_ok-clone-2+in_ok-insert+in-None-1 w ↦ record {
        agreed = λ q apart. ap (λ (m : MetadataMerge). value_at_key m.agreed q) w.self-is ∙ w.in_ok-insert.ensures.updates.2 q (key-apart w.in_ok-clone.field-0 q (λ e. apart (sym e ∙ w.in_ok-clone.ensures.cases)));
        conflicts = λ q apart. ap (λ (m : MetadataMerge). value_at_key m.conflicts q) w.self-is;
      }
      | in_default w ↦ record {
        agreed = λ q apart. ap (λ (m : MetadataMerge). value_at_key m.agreed q) w.self-is;
        conflicts = λ q apart. ap (λ (m : MetadataMerge). value_at_key m.conflicts q) w.self-is;
      }
    ]
