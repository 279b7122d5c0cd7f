use Rattle.std.proofs.Common.{take}
use Rattle.std.specs.Fmt.{HasWritten, IsPlainFormatter}
use Rattle.cargo_lock_report.specs.Annotations.{annotations_text}
use Rattle.cargo_lock_report.proofs.annotation.write_annotations.Given as goal

-- the annotations of the findings so far are written
abbrev pub invariant-loop-finding : goal.invariant-loop-finding
invariant-loop-finding g l = IsPlainFormatter l.initial.f → HasWritten g.W.Write.write_str_gives l.initial.f
    (annotations_text (take l.finding-index l.findings)) l.f
