use Rattle.std.proofs.Common.{◌∙◌}
use Rattle.clap.proofs.WalkLemmas.{list_any-map}
use Rattle.cargo_lock_audit.specs.Findings.{AdvisoryFindingData, advisory_finding_of}
use Rattle.cli_folder_commands.proofs.audit.is_denied.Goals as goal

pub returns : goal.returns
returns c = c.is_denied.ensures ∙ list_any-map (λ (f : AdvisoryFindingData). f.is_denied) advisory_finding_of c.args.report.now.findings.items
