use Rattle.std.proofs.Common.{◌≡◌, ◌∙◌, ◌++◌, List, ap, subst}
use Rattle.std.specs.List.Sorted.{IsPermutation}
use Rattle.cargo_lock_merge_core.specs.declared.conflicts.Conflict as merging
use Rattle.cargo_lock_merge.proofs.Conflicting.{at-places}
use Rattle.cargo_lock_merge.proofs.conflict.conflicts_at_places.Goals as goal

pub returns-clause-ok : goal.returns-clause-ok
returns-clause-ok c = λ s h same.
    let ps : List merging.Conflict = c.in_ok-all.all.items in
    let cs : List merging.Conflict = c.in_ok-conflicts.field-0.items in
    let rs : List merging.Conflict = c.in_ok-conflicts-2.field-0.items in
    let joined : c.extend_from_slice-2.new.self.items ≡ (ps ++ cs) ++ rs =
    c.in_ok-extend_from_slice-2.ensures.items
    ∙ (λ i. (c.in_ok-extend_from_slice.ensures.items ∙ ap (λ (zs : List merging.Conflict). ps ++ zs) c.deref.ensures.value) i ++ c.deref-2.ensures.value i) in
    at-places s ps cs rs (c.in_ok-all.ensures.ok s h same) (c.in_ok-conflicts.ensures.ok s h same) (c.in_ok-conflicts-2.ensures.ok s h same) c.sort_by.new.self.items
    (subst (λ (zs : List merging.Conflict). IsPermutation zs c.sort_by.new.self.items) joined c.in_ok-sort_by.ensures.permutation)
