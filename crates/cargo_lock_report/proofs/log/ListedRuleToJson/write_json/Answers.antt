use Rattle.std.proofs.Common.{[], ◌∷◌, ◌++◌, ◌∙◌, ap, codes}
use Rattle.json.specs.Token as token
use Rattle.json.specs.Token.{key}
use Rattle.cargo_lock_report.specs.Log.{link_tokens, rule_json, title_tokens}
use Rattle.cargo_lock_report.specs.Reported.{RuleData}
use Rattle.printing.proofs.Behind.{then}
use Rattle.printing.proofs.Drafts.{as_tokens}
use Rattle.cargo_lock_report.proofs.Logs.{rule-tokens}
use Rattle.cargo_lock_report.proofs.log.ListedRuleToJson.write_json.Goals as goal

pub returns : goal.returns
unfolding rule_json
returns c =
    let r : RuleData = c.args.self.now.0.now in
    let id = c.as_str.ensures.value ∙ ap (λ (q : RuleData). q.id) c.rule.view_is in
    let title = ap (λ (q : RuleData). q.title) c.rule.view_is in
    let url = ap (λ (q : RuleData). q.url) c.rule.view_is in
    as_tokens
    ((λ i. (token.begin_object ∷ []) ++ ((key (codes "id") ∷ token.string (id i) ∷ [])
    ++ (title_tokens (title i) ++ (link_tokens (url i) ++ (token.end_object ∷ []))))) ∙ rule-tokens r)
    (then c.in_ok-begin_object.ensures (then c.in_ok-string_member.ensures
    (then c.in_ok-put_title.ensures (then c.in_ok-put_link.ensures c.end_object.ensures))))
