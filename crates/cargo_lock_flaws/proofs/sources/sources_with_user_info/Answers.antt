use Rattle.std.proofs.Common.{refl}
use Rattle.cargo_lock_flaws.specs.Sources.{HasUserInfo, IsFrom}
use Rattle.cargo_lock_flaws.proofs.PackagePlaces.{places-tested}
use Rattle.cargo_lock_flaws.proofs.sources.sources_with_user_info.Goals as goal
use Rattle.cargo_lock_flaws.proofs.sources.sources_with_user_info.Goals.{then-is_from_user_info+in_ok-push, else-is_from_user_info}

pub loop-place-preserved : goal.loop-place-preserved
loop-place-preserved c =
    let l = c.loop-place in
    places-tested (IsFrom HasUserInfo) c.args.packages.now l.place c.index-packages-place.result c.is_from_user_info.result l.places.items _
    c.loop-place-test.true c.index-packages-place.is c.is_from_user_info.ensures
    (elim c.if-is_from_user_info.branch [
      | then-is_from_user_info+in_ok-push w ↦ rw (w.places-is, w.if-is_from_user_info.true) w.in_ok-push.ensures.items
      | else-is_from_user_info w ↦ rw (w.places-is, w.if-is_from_user_info.false) refl
    ]) l.invariant
