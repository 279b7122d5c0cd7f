use Rattle.std.proofs.Common.{◌+◌, List, refl, subst, sym, take}
use Rattle.std.specs.List.{AllZip}
use Rattle.cargo_lock_merge_core.specs.declared.entry.Entry.{Entry}
use Rattle.cargo_lock_merge_core.specs.declared.reach.Node.{Node}
use Rattle.cargo_lock_merge_core.specs.Plans.{IsNodeOf}
use Rattle.cargo_lock_graph.proofs.Zipped.{zip-more}
use Rattle.cargo_lock_merge_core.proofs.plan.nodes.Goals as goal

pub loop-entry-preserved : goal.loop-entry-preserved
loop-entry-preserved c =
    let es : List Entry = c.args.entries.now in
    let i = c.loop-entry.entry-index in
    subst (λ (ns : List Node). AllZip IsNodeOf (take (i + 1) es) ns) (sym c.in_ok-push.ensures.items)
    (zip-more IsNodeOf es c.loop-entry.nodes.items i c.entry-item.result _ c.loop-entry-test.true c.entry-item.is c.loop-entry.invariant
    record { place = refl; root = c.is_root.ensures; targets = c.deref.ensures.value })
