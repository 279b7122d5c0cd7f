use Rattle.std.proofs.Common.{◌≤◌, ◌-◌, length}
use Rattle.cargo_lock_order.specs.Order.{package_order}
use Rattle.cargo_lock_diff.proofs.Homes.{AreBefore, AreBehind}
use Rattle.cargo_lock_diff.proofs.home.is_among.Given as goal

abbrev pub invariant-loop-low : goal.invariant-loop-low
invariant-loop-low l = record {
  within : l.high ≤ length l.sorted;
  before : AreBefore package_order l.sorted l.one l.low;
  behind : AreBehind package_order l.sorted l.one l.high;
}

abbrev pub decreases-loop-low : goal.decreases-loop-low
decreases-loop-low l = l.high - l.low
