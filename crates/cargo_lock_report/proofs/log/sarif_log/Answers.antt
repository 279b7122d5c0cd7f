use Rattle.std.proofs.Common.{arith, sym}
use Rattle.cargo_lock_report.proofs.Logs.{log-depth}
use Rattle.cargo_lock_report.specs.Rules.{listed_rule}
use Rattle.std.proofs.Common.{map}
use Rattle.cargo_lock_report.proofs.log.sarif_log.Goals as goal

pub json_line-requires : goal.json_line-requires
json_line-requires c = omega (arith, log-depth (map listed_rule c.deref.result.now) c.args.findings.now)

pub returns : goal.returns
returns c = rw (sym c.in_ok-rules.ensures, sym c.deref.ensures.value) c.json_line.ensures
