use Rattle.std.proofs.Common.{◌≡◌, ◌≤◌, ℕ, List, length, max, vec_len}
use Rattle.cargo_lock_graph.specs.DrawingMade.{AreMarked, drawing}
use Rattle.cargo_lock_graph.specs.Edges.{far_ends}
use Rattle.cargo_lock_graph.specs.Frames.{frames_after, greatest_frames}
use Rattle.cargo_lock_graph.specs.WalkState.{IsOn, KeepsLevels, to_come}
use Rattle.cargo_lock_graph.proofs.drawing.frames.most_frames.Given as goal

-- the greatest number so far and that of the entries to come are those of the drawing
abbrev pub invariant-entries : goal.invariant-entries
invariant-entries l = record {
  on : IsOn l.graph l.walk;
  levels : KeepsLevels l.graph l.walk;
  held : vec_len l.walk.stack ≤ l.most;
  within : l.most ≤ length l.graph.packages;
  drawn : (nodes : List ℕ) × AreMarked l.walk.visited.items nodes
      × (max l.most (frames_after nodes (to_come l.graph l.walk))
      ≡ greatest_frames (drawing (far_ends l.fn.direction l.graph.edges) (length l.graph.packages) l.fn.start));
}

abbrev pub decreases-entries : goal.decreases-entries
decreases-entries l = length (to_come l.graph l.walk)
