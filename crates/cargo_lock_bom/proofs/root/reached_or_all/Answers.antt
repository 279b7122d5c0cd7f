use Rattle.cargo_lock_bom.proofs.root.reached_or_all.Goals as goal

pub returns-in-Some : goal.returns-in-Some
returns-in-Some c = rw c.in-Some.is c.reached_nodes.ensures

pub returns-in-None : goal.returns-in-None
returns-in-None c = rw c.in-None.is c.all_nodes.ensures
