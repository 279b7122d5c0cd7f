use Rattle.cargo_lock_edges.proofs.groups.Groups.standing_for.Goals as goal

pub returns : goal.returns
returns c = (c.«package».result.now, c.«package».ensures, c.stand_in.ensures)
