use Rattle.std.proofs.Common.{◌∙◌, sym}
use Rattle.cargo_lock_flaws.proofs.DependencySeen.{ascend-more}
use Rattle.cargo_lock_flaws.proofs.dependencies.ascend.Goals as goal

pub loop-at-preserved : goal.loop-at-preserved
loop-at-preserved c =
    ascend-more c.args.dependencies.now c.loop-at.at c.index-dependencies-at.result
    c.index-dependencies-at-in-loop-at.result c.loop-at.auto.at c.loop-at-test.true
    c.index-dependencies-at.is c.index-dependencies-at-in-loop-at.is
    (sym c.is_less.ensures ∙ c.if-not-is_less.false) c.loop-at.invariant
