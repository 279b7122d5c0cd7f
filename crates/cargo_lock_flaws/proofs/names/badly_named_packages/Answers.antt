use Rattle.std.proofs.Common.{◌≡◌, false, refl}
use Rattle.cargo_lock_flaws.specs.Names.{is_well_named}
use Rattle.cargo_lock_flaws.proofs.PackagePlaces.{places-tested}
use Rattle.cargo_lock_flaws.proofs.names.badly_named_packages.Goals as goal
use Rattle.cargo_lock_flaws.proofs.names.badly_named_packages.Goals.{then-is_badly_named+in_ok-push, else-is_badly_named}

pub loop-place-preserved : goal.loop-place-preserved
loop-place-preserved c =
    let l = c.loop-place in
    places-tested (λ p. is_well_named p ≡ false) c.args.packages.now l.place c.index-packages-place.result c.is_badly_named.result l.places.items _
    c.loop-place-test.true c.index-packages-place.is c.is_badly_named.ensures
    (elim c.if-is_badly_named.branch [
      | then-is_badly_named+in_ok-push w ↦ rw (w.places-is, w.if-is_badly_named.true) w.in_ok-push.ensures.items
      | else-is_badly_named w ↦ rw (w.places-is, w.if-is_badly_named.false) refl
    ]) l.invariant
