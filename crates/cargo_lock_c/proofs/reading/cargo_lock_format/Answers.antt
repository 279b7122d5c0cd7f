use Rattle.std.proofs.Common.{rules}
use Rattle.cargo_lock_c.proofs.reading.cargo_lock_format.Goals as goal

pub returns-in-Ok-clause-read : goal.returns-in-Ok-clause-read
returns-in-Ok-clause-read c = λ _. (c.in-Ok.lockfile, c.in-Ok.ensures.ok, search rules)
