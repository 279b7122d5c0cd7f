use Rattle.cargo_lock_edges.proofs.Grouping.{put-step}
use Rattle.cargo_lock_edges.proofs.groups.put.Goals as goal

pub returns : goal.returns
returns c = put-step c.args.groups.now c.put.new.self c.args.group c.args.place c.in_ok-put.ensures
