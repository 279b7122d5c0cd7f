use Rattle.cargo_lock_edges.proofs.OwnLaws.{others_lead_as_in_trees}
use Rattle.cargo_lock_edges.proofs.laws.others_lead_as_in_trees.Goals as goal

pub returns : goal.returns
returns c = others_lead_as_in_trees
