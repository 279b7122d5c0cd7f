use Rattle.std.proofs.Common.{◌≡◌, ◌∙◌, ℕ, List, Some, ap, arith, length, subst, sym}
use Rattle.cargo_lock_merge_core.specs.declared.numbers.Spot.{Spot}
use Rattle.cargo_lock_merge_core.specs.Numbers.{AreLast, spot_places}
use Rattle.cargo_lock_merge_core.proofs.Numbering.{numbers-step, place-read}
use Rattle.cargo_lock_merge_core.proofs.numbers.Numbers.of.Goals as goal

pub loop-at-preserved : goal.loop-at-preserved
loop-at-preserved c =
    let spots : List Spot = c.args.spots.now in
    let n = c.loop-at.at in
    numbers-step (spot_places spots) n c.loop-at.last c.insert.new.self c.place_at.result
    (place-read spots n c.index-spots-at.result c.loop-at-test.true c.index-spots-at.is ∙ ap Some (sym c.place_at.ensures))
    (λ q. c.in_ok-insert.ensures.updates.0 q) c.loop-at.invariant

pub invariant_of-result : goal.invariant_of-result
invariant_of-result c =
    let end = c.loop-at-test.false in
    let fits = c.loop-at.auto.at-end in
    let is : c.loop-at.at ≡ length c.args.spots.now = omega (arith, end, fits) in
    subst (λ (n : ℕ). AreLast (spot_places c.args.spots.now) n c.loop-at.last) is c.loop-at.invariant
