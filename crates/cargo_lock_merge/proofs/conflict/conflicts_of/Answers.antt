use Rattle.std.proofs.Common.{◌∙◌, ◌++◌, map}
use Rattle.cargo_lock_merge.specs.declared.conflict.Conflict.TheVariants.{AtPlace, OfSource}
use Rattle.cargo_lock_merge.proofs.Conflicting.{are-conflicts}
use Rattle.cargo_lock_merge.proofs.conflict.conflicts_of.Goals as goal

pub returns-clause-ok : goal.returns-clause-ok
returns-clause-ok c = λ s plan same.
    are-conflicts s c.in_ok-at_places.at_places.items (c.in_ok-at_places.ensures.ok s plan same) c.in_ok-sources.sources.items c.sort_by.new.self.items
    (c.in_ok-sources.ensures.ok s plan same) c.in_ok-sort_by.ensures.permutation c.in_ok-joined.field-0.items
    (c.in_ok-joined.ensures ∙ (λ i. map AtPlace (c.deref.ensures.value i) ++ map OfSource (c.deref-2.ensures.value i)))
