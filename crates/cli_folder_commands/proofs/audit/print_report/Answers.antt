use Rattle.std.proofs.Common.{◌∙◌, ap, not, sym}
use Rattle.cli_folder_commands.proofs.audit.print_report.Goals as goal

pub returns : goal.returns
returns g c = rw (sym c.in_ok-report.ensures) (record {
  printed = c.in_ok-print_as_asked.ensures;
  some = λ h. c.status_of.ensures.found (ap not (c.is_denied.ensures ∙ h));
  none = λ h. c.status_of.ensures.quiet (ap not (c.is_denied.ensures ∙ h));
})
