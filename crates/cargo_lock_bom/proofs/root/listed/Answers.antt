use Rattle.cargo_lock_bom.proofs.root.listed.Goals as goal

pub returns-in-All : goal.returns-in-All
returns-in-All c = rw c.in-All.is c.all_nodes.ensures

pub returns-in-Reached : goal.returns-in-Reached
returns-in-Reached c = rw c.in-Reached.is c.reached_or_all.ensures
