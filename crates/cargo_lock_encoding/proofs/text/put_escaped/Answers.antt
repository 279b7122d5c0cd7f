use Rattle.std.proofs.Common.{sym, ◌∙◌, rules}
use Rattle.cargo_lock_lines.proofs.Plain.{escape-plain}
use Rattle.cargo_lock_encoding.proofs.text.put_escaped.Goals as goal

pub returns-then-is_plain : goal.returns-then-is_plain
returns-then-is_plain c = rw (escape-plain c.args.text.now (sym c.is_plain.ensures ∙ c.if-is_plain.true)) (search rules)
