use Rattle.std.proofs.Common.{arith, sym, ◌∙◌}
use Rattle.cargo_lock_diff.proofs.Homes.{before-more, behind-more, hit, missed, order_total}
use Rattle.cargo_lock_diff.proofs.home.is_among.Goals as goal

pub loop-low-preserved-in-Less : goal.loop-low-preserved-in-Less
loop-low-preserved-in-Less c = record {
  within = c.loop-low.invariant.within;
  before = before-more order_total c.args.sorted.now c.requires _ c.index-sorted-middle.result c.args.one.now (omega (arith, c.loop-low-test.true, c.loop-low.invariant.within))
      c.index-sorted-middle.is (sym c.in_ok-package_order.ensures ∙ c.in-Less.is);
  behind = c.loop-low.invariant.behind;
}

pub loop-low-preserved : goal.loop-low-preserved
loop-low-preserved c = record {
  within = omega (arith, c.loop-low-test.true, c.loop-low.invariant.within);
  before = c.loop-low.invariant.before;
  behind = behind-more order_total c.args.sorted.now c.requires _ c.index-sorted-middle.result c.args.one.now (omega (arith, c.loop-low-test.true, c.loop-low.invariant.within))
      c.index-sorted-middle.is (sym c.in_ok-package_order.ensures ∙ c.in-Greater.is);
}

pub returns-in-Equal : goal.returns-in-Equal
returns-in-Equal c =
    sym (hit order_total c.args.sorted.now _ c.index-sorted-middle.result c.args.one.now (omega (arith, c.loop-low-test.true, c.loop-low.invariant.within)) c.index-sorted-middle.is
    (sym c.in_ok-package_order.ensures ∙ c.in-Equal.is))

pub returns : goal.returns
returns c =
    sym (missed order_total c.args.sorted.now c.loop-low.low c.loop-low.high c.args.one.now c.loop-low-test.false c.loop-low.invariant.before c.loop-low.invariant.behind)
