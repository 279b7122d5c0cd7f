use Rattle.std.proofs.Common.{◌++◌}
use Rattle.cargo_lock_graph.proofs.SinkWrites.{fault_result, fault_more, written_after}
use Rattle.cargo_lock_graph.proofs.drawing.put.put_both.Goals as goal

pub returns-in_err-put_all : goal.returns-in_err-put_all
returns-in_err-put_all g c = fault_result c.from_residual.result _ _ (c.args.first.now ++ c.args.second.now) c.from_residual.ensures.0 (fault_more _ _ c.args.first.now c.args.second.now c.in_err-put_all.ensures)

pub returns : goal.returns
returns g c = written_after c.put_all-2.result _ _ _ c.args.first.now c.args.second.now c.in_ok-put_all.ensures.0 c.in_ok-put_all.ensures.1 c.put_all-2.ensures
