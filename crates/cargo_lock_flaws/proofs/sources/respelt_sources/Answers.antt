use Rattle.std.proofs.Common.{refl}
use Rattle.cargo_lock_flaws.specs.Sources.{IsFrom, IsRespelt}
use Rattle.cargo_lock_flaws.proofs.PackagePlaces.{places-tested}
use Rattle.cargo_lock_flaws.proofs.sources.respelt_sources.Goals as goal
use Rattle.cargo_lock_flaws.proofs.sources.respelt_sources.Goals.{then-branch+in_ok-push, else-branch}

pub loop-place-preserved : goal.loop-place-preserved
loop-place-preserved c =
    let l = c.loop-place in
    places-tested (IsFrom IsRespelt) c.args.packages.now l.place c.index-packages-place.result c.in_ok-is_from_respelt.field-0 l.places.items _
    c.loop-place-test.true c.index-packages-place.is c.in_ok-is_from_respelt.ensures
    (elim c.if-branch.branch [
      | then-branch+in_ok-push w ↦ rw (w.places-is, w.if-branch.true) w.in_ok-push.ensures.items
      | else-branch w ↦ rw (w.places-is, w.if-branch.false) refl
    ]) l.invariant
