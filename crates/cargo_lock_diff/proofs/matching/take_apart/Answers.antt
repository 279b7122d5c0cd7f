use Rattle.std.proofs.Common.{◌≡◌, true, false, sym, subst}
use Rattle.cargo_lock_diff.specs.Pairing.{StandsOnce}
use Rattle.cargo_lock_diff.specs.Placing.{are_alike}
use Rattle.cargo_lock_diff.specs.declared.matching.Placed.{Placed}
use Rattle.cargo_lock_diff.proofs.Orders.{placed_total}
use Rattle.cargo_lock_diff.proofs.Apart.{apart-alone, apart-other}
use Rattle.cargo_lock_diff.proofs.matching.take_apart.Goals as goal
use Rattle.cargo_lock_diff.proofs.matching.take_apart.Goals.{then-is_alone+in_ok-push, else-is_alone+in_ok-push-2}

pub loop-place-preserved : goal.loop-place-preserved
loop-place-preserved c =
    let all = c.args.sorted.now in
    let l = c.loop-place in
    elim c.if-is_alone.branch [
      | then-is_alone+in_ok-push w ↦
          let x = w.index-sorted-place.result in
          let once : StandsOnce (are_alike c.args.likeness) x all = subst (λ (z : Placed). StandsOnce (are_alike c.args.likeness) z all) (sym w.index-sorted-place.is) ((c.is_alone.ensures x).0 w.if-is_alone.true) in
          rw (w.alone-is, w.others-is) (apart-alone (placed_total c.args.likeness) all l.place x l.alone.items l.others.items _ c.requires l.invariant c.loop-place-test.true w.index-sorted-place.is once w.in_ok-push.ensures.items)
      | else-is_alone+in_ok-push-2 w ↦
          let x = w.index-sorted-place-else-is_alone.result in
          let more : StandsOnce (are_alike c.args.likeness) x all → ⊥ = λ once.
          let hit : c.is_alone.result ≡ true = (c.is_alone.ensures x).1 (subst (λ (z : Placed). StandsOnce (are_alike c.args.likeness) z all) w.index-sorted-place-else-is_alone.is once) in
          let miss : c.is_alone.result ≡ false = w.if-is_alone.false in cc (hit, miss) in
          rw (w.alone-is, w.others-is) (apart-other (placed_total c.args.likeness) all l.place x l.alone.items l.others.items _ l.invariant c.loop-place-test.true w.index-sorted-place-else-is_alone.is more w.in_ok-push-2.ensures.items)
    ]
