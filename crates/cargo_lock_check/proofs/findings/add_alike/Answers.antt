use Rattle.cargo_lock_check.specs.Findings.{alike_at}
use Rattle.cargo_lock_check.proofs.Told.{told-more}
use Rattle.cargo_lock_check.proofs.findings.add_alike.Goals as goal

pub loop-earlier-preserved : goal.loop-earlier-preserved
loop-earlier-preserved c =
    told-more (alike_at c.args.packages.now) c.args.pairs.now c.loop-earlier.earlier-index _ _ _ _ _ c.loop-earlier-test.true
    c.loop-earlier.invariant c.in_ok-add_some.ensures c.alike_packages.ensures
