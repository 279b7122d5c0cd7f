use Rattle.std.proofs.Common.{map}
use Rattle.cargo_lock_diff.specs.declared.matching.Placed.{Placed}
use Rattle.cargo_lock_diff.specs.Matching.{AreMatched, is_alike_at}
use Rattle.cargo_lock_diff.specs.Placing.{are_alike, unplaced_pair}
use Rattle.cargo_lock_diff.proofs.InOrder.{put-in-order}
use Rattle.cargo_lock_diff.proofs.Matched.{matched-map, matched-permuted}
use Rattle.cargo_lock_diff.proofs.matching.pair_off.Goals as goal

pub returns-clause-matched : goal.returns-clause-matched
returns-clause-matched c =
    let item = λ (p : Placed). p.item in
    let m = c.in_ok-merged.merged in
    let os = c.in_ok-olds.olds.items in
    let ns = c.in_ok-news.news.items in
    let merged : AreMatched (are_alike c.args.likeness) os ns m.pairs.items m.old.items m.new.items =
    rw (c.as_slice.ensures.value, c.as_slice-2.ensures.value) at c.in_ok-merged.ensures in
    matched-permuted (is_alike_at c.args.likeness) (map item os) (map item ns) (map unplaced_pair m.pairs.items) (map item m.old.items) (map item m.new.items)
    c.args.olds.now.items c.args.news.now.items c.in_ok-pairs.pairs.items c.in_ok-old.old.items c.in_ok-new.new.items
    (matched-map item (is_alike_at c.args.likeness) os ns m.pairs.items m.old.items m.new.items merged)
    c.in_ok-olds.ensures.items c.in_ok-news.ensures.items c.in_ok-pairs.ensures.items c.in_ok-old.ensures.items c.in_ok-new.ensures.items

pub returns-clause-in_order : goal.returns-clause-in_order
returns-clause-in_order c =
    let m = c.in_ok-merged.merged in
    let os = c.in_ok-olds.olds.items in
    let ns = c.in_ok-news.news.items in
    let merged : AreMatched (are_alike c.args.likeness) os ns m.pairs.items m.old.items m.new.items =
    rw (c.as_slice.ensures.value, c.as_slice-2.ensures.value) at c.in_ok-merged.ensures in
    put-in-order c.args.olds.now.items c.args.news.now.items os ns m.pairs.items m.old.items m.new.items
    c.in_ok-pairs.pairs.items c.in_ok-old.old.items c.in_ok-new.new.items
    c.in_ok-olds.ensures.placed c.in_ok-news.ensures.placed merged.olds_told merged.news_told
    c.in_ok-pairs.ensures.in_order c.in_ok-old.ensures.in_order c.in_ok-new.ensures.in_order
