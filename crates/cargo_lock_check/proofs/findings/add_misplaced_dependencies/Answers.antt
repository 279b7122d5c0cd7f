use Rattle.cargo_lock_check.specs.Findings.{misplaced_dependency_at}
use Rattle.cargo_lock_check.proofs.Told.{told-more}
use Rattle.cargo_lock_check.proofs.findings.add_misplaced_dependencies.Goals as goal

pub loop-place-preserved : goal.loop-place-preserved
loop-place-preserved c =
    told-more (misplaced_dependency_at c.args.packages.now) c.args.places.now c.loop-place.place-index _ _ _ _ _ c.loop-place-test.true
    c.loop-place.invariant c.in_ok-add_some.ensures c.misplaced_dependency.ensures
