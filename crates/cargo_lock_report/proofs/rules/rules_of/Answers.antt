use Rattle.std.proofs.Common.{◌∙◌, ◌∷◌, ◌+◌, List, ap, arith, drop, map, sym}
use Rattle.std.proofs.lemmas.List.{drop_all, drop_more}
use Rattle.cargo_lock_report.specs.Reported.{ReportedData, RuleData}
use Rattle.cargo_lock_report.specs.Rules.{listed_rule, with_rule, with_rules}
use Rattle.cargo_lock_report.proofs.rules.rules_of.Goals as goal

pub loop-finding-preserved : goal.loop-finding-preserved
loop-finding-preserved c =
    let l = c.loop-finding in
    let all : List ReportedData = c.args.findings.now in
    let f : ReportedData = c.finding-item.result in
    let rules : List RuleData = map listed_rule l.rules.items in
    ap (λ (rs : List RuleData). with_rules rs (drop (l.finding-index + 1) all)) (c.in_ok-put_rule.ensures ∙ ap (λ (f : ReportedData). with_rule rules f.rule) c.finding.view_is)
    ∙ ap (λ (f : ReportedData). with_rules rules (f ∷ drop (l.finding-index + 1) all)) c.finding-item.is
    ∙ ap (with_rules rules) (sym (drop_more all l.finding-index f c.loop-finding-test.true))
    ∙ l.invariant

pub returns : goal.returns
returns c = ap (with_rules (map listed_rule c.loop-finding.rules.items)) (sym (drop_all c.loop-finding.finding-index c.args.findings.now (omega arith)))
    ∙ c.loop-finding.invariant
