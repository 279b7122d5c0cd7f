use Rattle.std.proofs.Common.{map, take}
use Rattle.std.specs.Fmt.{HasWritten, IsPlainFormatter}
use Rattle.cargo_lock_licenses.specs.Report.{unmet_of, vain_text}
use Rattle.cargo_lock_licenses.proofs.report.write_unmet.Given as goal

-- the lines of the parts so far are written
abbrev pub invariant-loop-part : goal.invariant-loop-part
invariant-loop-part g l = IsPlainFormatter l.initial.f → HasWritten g.W.Write.write_str_gives l.initial.f
    (vain_text (map unmet_of (take l.part-index l.all))) l.f
