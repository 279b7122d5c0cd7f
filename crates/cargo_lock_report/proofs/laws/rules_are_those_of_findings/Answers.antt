use Rattle.cargo_lock_report.proofs.Listed.{rules-are-those-of-findings}
use Rattle.cargo_lock_report.proofs.laws.rules_are_those_of_findings.Goals as goal

pub returns : goal.returns
returns c = rules-are-those-of-findings
