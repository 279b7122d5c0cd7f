use Rattle.std.proofs.Common.{◌≡◌, drop, map}
use Rattle.cargo_lock_report.specs.Rules.{listed_rule, rules_of, with_rules}
use Rattle.cargo_lock_report.proofs.rules.rules_of.Given as goal

-- the rules so far, with those of the findings to come, are those of all
abbrev pub invariant-loop-finding : goal.invariant-loop-finding
invariant-loop-finding l = with_rules (map listed_rule l.rules.items) (drop l.finding-index l.findings) ≡ rules_of l.findings
