use Rattle.cargo_lock_edges.proofs.OnlyOnes.{none-named}
use Rattle.cargo_lock_edges.proofs.groups.Groups.best.Goals as goal

pub returns-in-No : goal.returns-in-No
returns-in-No c = none-named c.args.self.now.packages c.args.dependency.now c.in-No.ensures

pub only_match-requires : goal.only_match-requires
only_match-requires c = record { there = c.in-Only.ensures.0; only = c.in-Only.ensures.1 }

pub best_of_several-requires : goal.best_of_several-requires
best_of_several-requires c = c.in-Several.ensures
