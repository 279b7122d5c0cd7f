use Rattle.std.proofs.lemmas.Str.Pattern.{starts_text}
use Rattle.cargo_lock_table_flaws.proofs.marks.begins.Goals as goal

pub returns : goal.returns
returns c = starts_text c.starts_with.result c.args.mark.now c.args.line.now c.starts_with.ensures.cases
