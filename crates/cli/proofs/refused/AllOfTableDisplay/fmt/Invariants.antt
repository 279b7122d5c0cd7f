use Rattle.std.proofs.Common.{map, option_map, take}
use Rattle.std.specs.Fmt.{HasWritten, IsPlainFormatter}
use Rattle.cargo_lock_table_flaws.specs.Finding.{table_finding_of}
use Rattle.cli.specs.Check.{table_text}
use Rattle.cli.proofs.refused.AllOfTableDisplay.fmt.Given as goal

-- the findings so far are written
abbrev pub invariant-loop-finding : goal.invariant-loop-finding
invariant-loop-finding g l = IsPlainFormatter l.initial.f → HasWritten g.W.Write.write_str_gives l.initial.f
    (table_text (option_map (λ t. t.now) l.fn.self.prefix) (map table_finding_of (take l.finding-index l.findings))) l.f
