use Rattle.cargo_lock_edges.proofs.LastPlaces.{fit-target}
use Rattle.cargo_lock_edges.proofs.OnlyOnes.{none-named}
use Rattle.cargo_lock_edges.proofs.groups.Groups.target.Goals as goal

pub returns-in-No : goal.returns-in-No
returns-in-No c = none-named c.args.self.now.packages c.args.dependency.now c.in-No.ensures

pub only_fit-requires : goal.only_fit-requires
only_fit-requires c = record { there = c.in-Only.ensures.0; only = c.in-Only.ensures.1 }

pub target_of_several-requires : goal.target_of_several-requires
target_of_several-requires c = c.in-Several.ensures

pub returns-in-Only : goal.returns-in-Only
returns-in-Only c = fit-target c.args.self.now.packages c.args.dependency.now c.only_fit.result
    c.only_fit.ensures
