use Rattle.std.proofs.Common.{◌≡◌, ◌∙◌, ap, string_bytes}
use Rattle.printing.proofs.Behind.{then}
use Rattle.printing.proofs.Drafts.{as_tokens}
use Rattle.cargo_lock_report.specs.declared.reported.Reported.TheInside.{Inside}
use Rattle.cargo_lock_report.specs.Log.{level_word, result_json}
use Rattle.cargo_lock_report.specs.Reported.{ReportedData}
use Rattle.cargo_lock_report.proofs.Logs.{result_pieces}
use Rattle.cargo_lock_report.proofs.log.ReportedToJson.write_json.Goals as goal

pub returns : goal.returns
unfolding result_json
returns c =
    let f : ReportedData = c.args.self.now in
    let id : c.as_str.result.now ≡ f.rule.id = c.as_str.ensures.value ∙ ap (λ (x : Inside). x.rule.id) c.self-inside.view_is
    ∙ ap (λ (x : ReportedData). x.rule.id) c.self.view_is in
    let word : c.word.result.now ≡ level_word f.level = c.word.ensures ∙ ap (λ (x : Inside). level_word x.level) c.self-inside.view_is
    ∙ ap (λ (x : ReportedData). level_word x.level) c.self.view_is in
    let message : c.deref.result.now ≡ f.message = c.deref.ensures ∙ ap (λ (x : Inside). string_bytes x.message) c.self-inside.view_is
    ∙ ap (λ (x : ReportedData). x.message) c.self.view_is in
    as_tokens (λ i. result_pieces (id i) (word i) (message i) f)
    (then c.in_ok-begin_object.ensures (then c.in_ok-string_member.ensures
    (then c.in_ok-string_member-2.ensures (then c.in_ok-key.ensures
    (then c.in_ok-put_message.ensures (then c.in_ok-put_locations.ensures
    (then c.in_ok-put_fingerprints.ensures c.end_object.ensures)))))))
