use Rattle.std.proofs.Common.{take}
use Rattle.std.specs.Fmt.{HasWritten, IsPlainFormatter}
use Rattle.std.specs.List.{flat_map}
use Rattle.cargo_lock_diagram.specs.Diagram.{arrow_line}
use Rattle.cargo_lock_diagram.proofs.diagram.ArrowLinesDisplay.fmt.Given as goal

abbrev pub invariant-loop-arrow : goal.invariant-loop-arrow
invariant-loop-arrow g l = IsPlainFormatter l.initial.f → HasWritten g.W.Write.write_str_gives l.initial.f
    (flat_map (arrow_line l.fn.self.0) (take l.arrow-index l.arrow-items)) l.f
