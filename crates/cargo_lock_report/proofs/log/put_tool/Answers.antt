use Rattle.std.proofs.Common.{map}
use Rattle.json.specs.Json.{array}
use Rattle.json.specs.Tree.{json_tokens}
use Rattle.printing.specs.Json.{items_of}
use Rattle.cargo_lock_report.specs.Log.{rule_json, tool_json}
use Rattle.cargo_lock_report.specs.Rules.{listed_rule}
use Rattle.printing.proofs.Arrays.{by_another}
use Rattle.printing.proofs.Behind.{then}
use Rattle.printing.proofs.Drafts.{as_tokens}
use Rattle.cargo_lock_report.proofs.Logs.{tool-tokens}
use Rattle.cargo_lock_report.proofs.log.put_tool.Goals as goal

pub returns : goal.returns
unfolding tool_json
returns c = as_tokens (tool-tokens (json_tokens (array (items_of (map rule_json (map listed_rule c.args.rules.now))))))
    (then c.in_ok-begin_object.ensures (then c.in_ok-key.ensures
    (then c.in_ok-begin_object-2.ensures (then c.in_ok-string_member.ensures
    (then c.in_ok-key-2.ensures (then (by_another rule_json listed_rule c.args.rules.now c.in_ok-write_array.ensures)
    (then c.in_ok-end_object.ensures c.end_object-2.ensures)))))))
