use Rattle.std.proofs.Common.{◌≡◌, ◌≤◌, vec_len}
use Rattle.cargo_lock_graph.specs.WalkState.{IsOn, KeepsLevels, to_come}
use Rattle.cargo_lock_graph.proofs.drawing.walk.Walk.next.Given as goal

abbrev pub invariant-loop-frame : goal.invariant-loop-frame
invariant-loop-frame l = record {
  on : IsOn l.graph l.self;
  levels : KeepsLevels l.graph l.self;
  direction : l.self.direction ≡ l.fn.self.direction;
  marks : l.self.visited.items ≡ l.fn.self.visited.items;
  fewer : vec_len l.self.stack ≤ vec_len l.fn.self.stack;
  same : to_come l.graph l.self ≡ to_come l.graph l.fn.self;
}

abbrev pub decreases-loop-frame : goal.decreases-loop-frame
decreases-loop-frame l = vec_len l.self.stack
