use Rattle.cli_support.proofs.Writes.{on_ok_weaken}
use Rattle.cli_lockfile_commands.proofs.graph.run.Goals as goal

pub returns : goal.returns
returns g c = on_ok_weaken c.draw_graph.result _ _ (λ drawn. (
  c.in_ok-graph.ensures.ok.0,
  c.in_ok-graph.graph,
  c.in_ok-graph.ensures.ok.1,
  c.in_ok-graph.ensures.ok.3,
  drawn,
)) c.draw_graph.ensures
