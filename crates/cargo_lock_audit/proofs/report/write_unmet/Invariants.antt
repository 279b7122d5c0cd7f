use Rattle.std.proofs.Common.{map, take}
use Rattle.std.specs.Fmt.{HasWritten, IsPlainFormatter}
use Rattle.cargo_lock_audit.specs.Findings.{id_of}
use Rattle.cargo_lock_audit.specs.Lines.{unmet_text}
use Rattle.cargo_lock_audit.proofs.report.write_unmet.Given as goal

-- the lines of the ids so far are written
abbrev pub invariant-loop-unmet : goal.invariant-loop-unmet
invariant-loop-unmet g l = IsPlainFormatter l.initial.f → HasWritten g.W.Write.write_str_gives l.initial.f
    (unmet_text (map id_of (take l.unmet-index l.all))) l.f
