use Rattle.std.proofs.Common.{◌↔◌, ◌⊎◌, List, arith, subst}
use Rattle.std.proofs.lemmas.List.{take_all}
use Rattle.std.specs.BTreeSet.{keys}
use Rattle.cargo_lock_merge.specs.Patches.{IsIn, IsKeptOf}
use Rattle.cargo_lock_merge.proofs.Patching.{has-more, put-next}
use Rattle.cargo_lock_parts.specs.Identity.{Identity}
use Rattle.cargo_lock_merge.proofs.patches.PatchSets.put_kept.Goals as goal

pub loop-patch-preserved : goal.loop-patch-preserved
loop-patch-preserved c = λ d.
    put-next (IsKeptOf c.args.self.now d) (IsIn (keys c.args.kept.now) d) (IsIn (keys c.loop-patch.kept) d) (IsIn (keys c.put_if_kept.new.kept) d) _ _ _
    (has-more c.args.patches.now c.loop-patch.patch-index c.patch-item.result d c.loop-patch-test.true c.patch-item.is)
    (c.loop-patch.invariant d) (c.in_ok-put_if_kept.ensures.ok d)

pub returns-clause-ok : goal.returns-clause-ok
returns-clause-ok c = λ d.
    let end = c.loop-patch-test.false in
    subst (λ (xs : List Identity). IsIn (keys c.loop-patch.kept) d ↔ (IsIn (keys c.args.kept.now) d ⊎ (IsIn xs d × IsKeptOf c.args.self.now d))) (take_all c.loop-patch.patch-index c.args.patches.now (omega (arith, end)))
    (c.loop-patch.invariant d)
