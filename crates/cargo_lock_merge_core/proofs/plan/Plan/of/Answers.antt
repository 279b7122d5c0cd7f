use Rattle.std.proofs.Common.{◌∙◌, List, ap, length, slice_get, subst, sym}
use Rattle.cargo_lock_merge_core.specs.declared.entry.Entry.{Entry}
use Rattle.cargo_lock_merge_core.specs.Merge.{IsRootOfMerge, LeadsToInMerge}
use Rattle.cargo_lock_merge_core.specs.Plans.{AreMergeEntries, IsRootEntry, LeadsToEntry, entry_places, numbered_triple}
use Rattle.cargo_lock_merge_core.proofs.Chaining.{reached-same}
use Rattle.cargo_lock_merge_core.proofs.Depending.{iff-chain}
use Rattle.cargo_lock_merge_core.proofs.Planning.{leads-same, root-same}
use Rattle.cargo_lock_merge_core.proofs.plan.Plan.of.Goals as goal

pub returns-clause-ok : goal.returns-clause-ok
returns-clause-ok c =
    let s = numbered_triple c.args.base.now c.args.ours.now c.args.theirs.now in
    let es : List Entry = c.deref.result.now in
    let is = c.deref.ensures.value in
    let are = subst (λ (zs : List Entry). AreMergeEntries s zs) (sym is) c.in_ok-entries.ensures.ok in
    record {
      entries = c.in_ok-entries.ensures.ok;
      count = c.in_ok-reached.ensures.count ∙ ap (λ (zs : List Entry). length zs) is;
      marks = λ k n at. iff-chain (c.in_ok-reached.ensures.marks k n (ap (λ (zs : List Entry). slice_get (entry_places zs) k) is ∙ at))
          (reached-same (IsRootEntry es) (IsRootOfMerge s) (LeadsToEntry es) (LeadsToInMerge s)
          (root-same s es c.requires.base.order c.requires.ours.order c.requires.theirs.order are)
          (leads-same s es c.requires.base.order c.requires.ours.order c.requires.theirs.order are) n);
    }
