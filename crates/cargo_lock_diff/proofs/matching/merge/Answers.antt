use Rattle.std.proofs.Common.{◌++◌, ap, inl, inr, sym, ◌∙◌}
use Rattle.std.proofs.lemmas.List.{take_rest}
use Rattle.cargo_lock_diff.specs.Placing.{placed_cmp}
use Rattle.cargo_lock_diff.proofs.Orders.{placed_total}
use Rattle.cargo_lock_diff.proofs.Merging.{merged-end, merged-equal, merged-greater, merged-less}
use Rattle.cargo_lock_diff.proofs.matching.merge.Goals as goal
use Rattle.cargo_lock_diff.proofs.matching.merge.Goals.{then-loop-olds_done-test+else-news_done-news, else-loop-olds_done-test}

pub loop-olds_done-preserved-in-Less : goal.loop-olds_done-preserved-in-Less
loop-olds_done-preserved-in-Less c =
    let l = c.loop-olds_done in
    merged-less (placed_total c.args.likeness) c.args.olds.now c.args.news.now l.olds_done l.news_done c.index-olds-olds_done.result c.index-news-news_done.result
    l.pairs.items l.old.items l.new.items _ l.invariant c.requires.news_sorted c.loop-olds_done-test.true c.if-news_done-news.true
    c.index-olds-olds_done.is c.index-news-news_done.is (sym c.compare.ensures ∙ c.in-Less.is) c.in_ok-push-in-Less.ensures.items

pub loop-olds_done-preserved-in-Equal : goal.loop-olds_done-preserved-in-Equal
loop-olds_done-preserved-in-Equal c =
    let l = c.loop-olds_done in
    merged-equal (placed_total c.args.likeness) c.args.olds.now c.args.news.now l.olds_done l.news_done c.index-olds-olds_done.result c.index-news-news_done.result
    l.pairs.items l.old.items l.new.items _ l.invariant c.loop-olds_done-test.true c.if-news_done-news.true
    c.index-olds-olds_done.is c.index-news-news_done.is (sym c.compare.ensures ∙ c.in-Equal.is) c.in_ok-push-in-Equal.ensures.items

pub loop-olds_done-preserved : goal.loop-olds_done-preserved
loop-olds_done-preserved c =
    let l = c.loop-olds_done in
    merged-greater (placed_total c.args.likeness) c.args.olds.now c.args.news.now l.olds_done l.news_done c.index-olds-olds_done.result c.index-news-news_done.result
    l.pairs.items l.old.items l.new.items _ l.invariant c.requires.olds_sorted c.loop-olds_done-test.true c.if-news_done-news.true
    c.index-olds-olds_done.is c.index-news-news_done.is (sym c.compare.ensures ∙ c.in-Greater.is) c.in_ok-push-in-Greater.ensures.items

pub returns : goal.returns
returns c =
    let l = c.loop-olds_done in
    merged-end (placed_cmp c.args.likeness) c.args.olds.now c.args.news.now l.olds_done l.news_done l.pairs.items l.old.items l.new.items _ _ l.invariant
    (elim c.loop-olds_done-test.branch [
      | then-loop-olds_done-test+else-news_done-news w ↦ inr w.if-news_done-news.false
      | else-loop-olds_done-test w ↦ inl w.loop-olds_done-test.false
    ])
    (c.in_ok-extend_from_slice.ensures.items ∙ ap (λ zs. l.old.items ++ zs) (take_rest c.args.olds.now l.olds_done))
    (c.in_ok-extend_from_slice-2.ensures.items ∙ ap (λ zs. l.new.items ++ zs) (take_rest c.args.news.now l.news_done))
