use Rattle.cargo_lock_check.specs.Findings.{source_finding_at, source_finding_by}
use Rattle.cargo_lock_check.proofs.Told.{told-more}
use Rattle.cargo_lock_check.proofs.findings.add_sources.Goals as goal

pub loop-place-preserved : goal.loop-place-preserved
loop-place-preserved c =
    told-more (source_finding_at (source_finding_by c.args.flaw) c.args.packages.now) c.args.places.now c.loop-place.place-index _ _ _ _ _ c.loop-place-test.true
    c.loop-place.invariant c.in_ok-add_some.ensures c.flawed_source.ensures
