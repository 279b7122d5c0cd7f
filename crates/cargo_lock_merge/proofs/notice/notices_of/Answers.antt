use Rattle.std.proofs.Common.{◌≡◌, ◌∙◌, ◌++◌, List, ap, subst}
use Rattle.std.specs.List.Sorted.{IsPermutation}
use Rattle.cargo_lock_merge_core.specs.declared.conflicts.Conflict as merging
use Rattle.cargo_lock_merge.proofs.Conflicting.{are-notices}
use Rattle.cargo_lock_merge.proofs.notice.notices_of.Goals as goal

pub returns-clause-ok : goal.returns-clause-ok
returns-clause-ok c = λ s plan same.
    let vs : List merging.Conflict = c.in_ok-all.all.items in
    let ls : List merging.Conflict = c.in_ok-conflicts.field-0.items in
    let joined : c.extend_from_slice.new.self.items ≡ vs ++ ls = c.in_ok-extend_from_slice.ensures.items ∙ ap (λ (zs : List merging.Conflict). vs ++ zs) c.deref.ensures.value in
    are-notices s vs ls (c.in_ok-all.ensures.ok s plan same) (c.in_ok-conflicts.ensures.ok s plan same) c.sort_by.new.self.items
    (subst (λ (zs : List merging.Conflict). IsPermutation zs c.sort_by.new.self.items) joined c.in_ok-sort_by.ensures.permutation)
