-- How many frames the stack of a walk needs for a drawing.
use Rattle.std.specs.Prelude.{ℕ, suc, cond, max, List, [], ◌∷◌}
use Rattle.cargo_lock_graph.specs.declared.drawing.entry.Entry.{Entry}
use Rattle.cargo_lock_graph.specs.Drawing.{is_one_of}

-- One more than the greatest depth of those of these entries that are the first of their nodes, if
-- entries of other nodes came before; 0 if there is none. An entry of a node that was drawn before
-- has no children, and so no frame.
abbrev pub frames_after : List ℕ → List Entry → ℕ
frames_after before [] = 0
frames_after before (e ∷ later) =
    max (cond (is_one_of e.node before) 0 (suc e.depth)) (frames_after (e.node ∷ before) later)

-- the greatest number of frames of a drawing
abbrev pub greatest_frames : List Entry → ℕ
greatest_frames entries = frames_after [] entries
