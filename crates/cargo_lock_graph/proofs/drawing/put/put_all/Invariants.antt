use Rattle.std.proofs.Common.{length, take, ◌-◌, ◌≤◌}
use Rattle.std.specs.Io.KnownBytes.{Appends}
use Rattle.cargo_lock_graph.specs.Sinks.{IsSound}
use Rattle.cargo_lock_graph.proofs.drawing.put.put_all.Given as goal

abbrev pub invariant-loop-at : goal.invariant-loop-at
invariant-loop-at g l = record {
  within : l.at ≤ length l.bytes;
  sound : IsSound (g.T.Target.state l.fn.out) (g.T.Target.state l.out);
  taken : Appends (g.T.Target.state l.fn.out).bytes (g.T.Target.state l.out).bytes (take l.at l.bytes);
}

abbrev pub decreases-loop-at : goal.decreases-loop-at
decreases-loop-at g l = length l.bytes - l.at
