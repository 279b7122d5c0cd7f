use Rattle.cargo_lock_references.proofs.WordLemmas.{ReadsReference-text}
use Rattle.cargo_lock_references.proofs.reference.EncodableDependency.from_str_by.Goals as goal

pub returns-clause-read : goal.returns-clause-read
returns-clause-read c = ReadsReference-text _ c.args.text.now c.read.result c.utf8.text c.read.ensures.read
