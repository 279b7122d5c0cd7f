use Rattle.std.proofs.Common.{◌≡◌, ℕ, List, ◌++◌, length}
use Rattle.std.specs.Io.KnownBytes.{Appends}
use Rattle.cargo_lock_graph.specs.DrawingByLater.{drawn_by_later}
use Rattle.cargo_lock_graph.specs.DrawingText.{standard_symbols}
use Rattle.cargo_lock_graph.specs.Labels.{label_at}
use Rattle.cargo_lock_graph.specs.Sinks.{IsSound}
use Rattle.cargo_lock_graph.specs.WalkState.{IsOn, KeepsLevels, to_come}
use Rattle.cargo_lock_graph.proofs.drawing.render.put_entries.Given as goal

abbrev pub invariant-loop-entry : goal.invariant-loop-entry
invariant-loop-entry g l = record {
  on : IsOn l.graph l.walk;
  levels : KeepsLevels l.graph l.walk;
  sound : IsSound (g.T.Target.state l.fn.out) (g.T.Target.state l.out);
  told : (front : List ℕ) × Appends (g.T.Target.state l.fn.out).bytes (g.T.Target.state l.out).bytes front
      × (front ++ drawn_by_later standard_symbols (label_at l.look.exact l.graph.packages) (to_come l.graph l.walk) ≡ drawn_by_later standard_symbols (label_at l.look.exact l.graph.packages) (to_come l.graph l.fn.walk));
}

abbrev pub decreases-loop-entry : goal.decreases-loop-entry
decreases-loop-entry g l = length (to_come l.graph l.walk)
