use Rattle.std.proofs.Common.{map, sym}
use Rattle.cargo_lock_licenses.specs.Judged.{judged_of}
use Rattle.cli_folder_commands.proofs.licenses.print_report.Goals as goal

pub returns : goal.returns
returns g c = (
  map judged_of c.in_ok-report.report.judged.items,
  c.in_ok-report.ensures.judged,
  rw (sym c.in_ok-report.ensures.unmet)
      (record { printed = c.in_ok-print_findings.ensures; counted = c.counts_of.ensures }),
)
