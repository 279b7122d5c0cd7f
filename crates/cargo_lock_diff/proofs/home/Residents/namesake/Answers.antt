use Rattle.std.proofs.Common.{sym}
use Rattle.cargo_lock_diff.specs.Difference.{referred_packages}
use Rattle.cargo_lock_diff.proofs.Homes.{named}
use Rattle.cargo_lock_diff.proofs.home.Residents.namesake.Goals as goal

pub find-requires : goal.find-requires
find-requires c = c.self.invariant.names_sorted

pub returns : goal.returns
returns c = rw (sym c.self.view_is) (named c.args.new.now (referred_packages c.self.inside.by_name.items) c.find.result c.find.ensures)
