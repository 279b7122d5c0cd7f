use Rattle.std.proofs.Common.{◌≡◌, ◌∙◌, ◌++◌, List, rules, string_bytes, subst}
use Rattle.cargo_lock_audit.specs.Findings.{advisory_finding_of}
use Rattle.cargo_lock_parts.specs.Identity.{PackageData}
use Rattle.cli_folder_commands.specs.Reasoned.{IsReasonedAt}
use Rattle.cli_folder_commands.proofs.Reasoning.{next-reasoned}
use Rattle.cli_folder_commands.proofs.reasoned.all_lines.Goals as goal

pub loop-finding-preserved : goal.loop-finding-preserved
loop-finding-preserved c =
    let one : IsReasonedAt c.args.packages.now c.args.graph.now c.args.graph.now.packages (advisory_finding_of c.finding-item.result) (string_bytes c.in_ok-one.one) =
    subst (λ (list : List PackageData). IsReasonedAt c.args.packages.now c.args.graph.now list (advisory_finding_of c.finding-item.result) (string_bytes c.in_ok-one.one))
    (c.in_ok-list.ensures ∙ c.packages.ensures) c.in_ok-one.ensures in
    let after : string_bytes c.push_str.new.self ≡ string_bytes c.loop-finding.lines ++ string_bytes c.in_ok-one.one = search rules in
    next-reasoned c.args.packages.now c.args.graph.now c.args.findings.now c.loop-finding.finding-index c.finding-item.result (string_bytes c.loop-finding.lines) (string_bytes c.in_ok-one.one)
    (string_bytes c.push_str.new.self) c.loop-finding-test.true c.finding-item.is c.loop-finding.invariant one after
