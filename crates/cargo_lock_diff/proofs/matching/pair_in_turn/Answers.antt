use Rattle.std.proofs.Common.{map, take, get_or, rules}
use Rattle.std.proofs.lemmas.List.{map_more, map-append}
use Rattle.cargo_lock_diff.specs.declared.likeness.Likeness.TheVariants.{Name}
use Rattle.cargo_lock_diff.specs.Matching.{is_alike_at}
use Rattle.cargo_lock_diff.proofs.InOrder.{sub-refl, sub-trans}
use Rattle.cargo_lock_diff.proofs.InTurn.{in-turn-push}
use Rattle.cargo_lock_diff.proofs.matching.pair_in_turn.Goals as goal

pub loop-likeness-init : goal.loop-likeness-init
loop-likeness-init c = ((search rules), sub-refl c.args.olds.items, sub-refl c.args.news.items)

pub loop-likeness-preserved : goal.loop-likeness-preserved
loop-likeness-preserved c =
    let l = c.loop-likeness in
    let m = c.in_ok-matching.matching in
    let at = l.likeness-index in
    let likenesses = c.args.likenesses.now in
    let pushed = c.in_ok-push.ensures.items in (
      rw (map_more is_alike_at likenesses at Name c.loop-likeness-test.true, pushed, map-append)
          (in-turn-push (map is_alike_at (take at likenesses)) (is_alike_at (get_or likenesses at Name)) c.args.olds.items c.args.news.items _ m.pairs.items
          l.old.items l.new.items m.old.items m.new.items l.invariant.0 c.in_ok-matching.ensures.paired),
      sub-trans m.old.items l.old.items c.args.olds.items c.in_ok-matching.ensures.in_order.of_old l.invariant.1,
      sub-trans m.new.items l.new.items c.args.news.items c.in_ok-matching.ensures.in_order.of_new l.invariant.2,
    )
