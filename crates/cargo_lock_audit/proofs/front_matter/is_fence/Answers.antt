use Rattle.std.proofs.Common.{codes}
use Rattle.std.proofs.lemmas.Str.Pattern.{starts_text}
use Rattle.cargo_lock_audit.proofs.front_matter.is_fence.Goals as goal

pub returns : goal.returns
returns c = starts_text c.starts_with.result (codes "```") c.args.line.now c.starts_with.ensures.cases
