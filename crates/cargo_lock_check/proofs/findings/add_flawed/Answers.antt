use Rattle.cargo_lock_check.specs.Findings.{finding_by, flawed_at}
use Rattle.cargo_lock_check.proofs.Told.{told-more}
use Rattle.cargo_lock_check.proofs.findings.add_flawed.Goals as goal

pub loop-place-preserved : goal.loop-place-preserved
loop-place-preserved c =
    told-more (flawed_at (finding_by c.args.flaw) c.args.packages.now) c.args.places.now c.loop-place.place-index _ _ _ _ _ c.loop-place-test.true
    c.loop-place.invariant c.in_ok-add_some.ensures c.flawed_package.ensures
