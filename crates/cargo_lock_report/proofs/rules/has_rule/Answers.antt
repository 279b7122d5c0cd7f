use Rattle.std.proofs.Common.{◌∙◌, sym}
use Rattle.lists.proofs.Tests.{any-map}
use Rattle.cargo_lock_report.specs.Rules.{is_rule_of, listed_rule}
use Rattle.cargo_lock_report.proofs.rules.has_rule.Goals as goal

pub returns : goal.returns
returns c = c.is_one_of.ensures ∙ sym (any-map listed_rule (is_rule_of c.args.id.now) c.args.rules.now)
