use Rattle.std.proofs.Common.{◌||◌, sym, ap, ◌∙◌}
use Rattle.cargo_lock_parts.specs.IdentityOrder.{is_same_identity}
use Rattle.cargo_lock_merge.proofs.Patching.{has-more}
use Rattle.cargo_lock_merge.proofs.patches.set_of.Goals as goal

pub loop-patch-preserved : goal.loop-patch-preserved
loop-patch-preserved c = λ d.
    c.in_ok-put.ensures.ok d ∙ ap (λ b. b || is_same_identity d c.patch-item.result) (c.loop-patch.invariant d)
    ∙ sym (has-more c.args.patches.now c.loop-patch.patch-index c.patch-item.result d c.loop-patch-test.true c.patch-item.is)
