use Rattle.std.proofs.Common.{◌∙◌, sym}
use Rattle.std.specs.Ordering.{eq_by_cmp}
use Rattle.std.proofs.lemmas.List.Sorted.{list_any-IsPermutation}
use Rattle.cargo_lock_order.specs.Order.{package_order}
use Rattle.cargo_lock_diff.specs.Difference.{referred_packages}
use Rattle.cargo_lock_diff.proofs.Homes.{known-by}
use Rattle.cargo_lock_diff.proofs.home.homes_of.Goals as goal

pub returns-clause-known : goal.returns-clause-known
returns-clause-known c = λ p home stands.
    sym (list_any-IsPermutation (eq_by_cmp package_order home) c.in_ok-homes.homes.items c.sort_by.new.self.items c.in_ok-sort_by.ensures.permutation)
    ∙ known-by p home stands (referred_packages c.args.packages.now.items) c.in_ok-homes.homes.items c.in_ok-homes.ensures
