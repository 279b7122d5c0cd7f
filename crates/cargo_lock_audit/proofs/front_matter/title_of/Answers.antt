use Rattle.std.proofs.Common.{codes}
use Rattle.cargo_lock_audit.proofs.Strips.{strip-text}
use Rattle.cargo_lock_audit.proofs.front_matter.title_of.Goals as goal

pub returns : goal.returns
returns c = strip-text (codes "# ") c.args.line.now c.strip_prefix.result c.strip_prefix.ensures.cases
