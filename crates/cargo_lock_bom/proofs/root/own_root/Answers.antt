use Rattle.cargo_lock_bom.proofs.Tops.{top-reaches}
use Rattle.cargo_lock_bom.proofs.root.own_root.Goals as goal

pub returns-in-Some-clause-reaches : goal.returns-in-Some-clause-reaches
returns-in-Some-clause-reaches c = top-reaches c.args.graph.now c.in-Some.node (rw c.in-Some.is at c.in_ok-node.ensures)
