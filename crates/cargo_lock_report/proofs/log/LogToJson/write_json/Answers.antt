use Rattle.std.proofs.Common.{[], ◌∷◌, codes, map}
use Rattle.json.specs.Token as token
use Rattle.json.specs.Token.{key}
use Rattle.json.specs.Tree.{json_tokens}
use Rattle.cargo_lock_report.specs.Log.{log_json, run_json}
use Rattle.cargo_lock_report.specs.Rules.{listed_rule}
use Rattle.printing.proofs.Behind.{then}
use Rattle.printing.proofs.Drafts.{as_tokens}
use Rattle.cargo_lock_report.proofs.Logs.{log-tokens}
use Rattle.cargo_lock_report.proofs.log.LogToJson.write_json.Goals as goal

pub returns : goal.returns
unfolding log_json
returns c = as_tokens
    (log-tokens (token.begin_object ∷ key (codes "$schema") ∷ token.string (codes "https://json.schemastore.org/sarif-2.1.0.json")
    ∷ key (codes "version") ∷ token.string (codes "2.1.0") ∷ key (codes "runs") ∷ [])
    (json_tokens (run_json (map listed_rule c.args.self.now.rules.now) c.args.self.now.findings.now)))
    (then c.in_ok-begin_object.ensures (then c.in_ok-string_member.ensures
    (then c.in_ok-string_member-2.ensures (then c.in_ok-key.ensures
    (then c.in_ok-begin_array.ensures (then c.in_ok-put_run.ensures
    (then c.in_ok-end_array.ensures c.end_object.ensures)))))))
