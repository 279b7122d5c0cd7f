use Rattle.cargo_lock_limit.proofs.Meanings.{text-within}
use Rattle.cargo_lock_limit.proofs.reading.lockfile_within.Goals as goal

pub returns-in-Some-clause-ok : goal.returns-in-Some-clause-ok
returns-in-Some-clause-ok c =
    text-within c.args.limit c.args.text.now c.in-Some.lockfile (rw c.in-Some.is at c.in_ok-found.ensures.ok) c.within.result c.within.ensures

pub returns-in-None-clause-ok : goal.returns-in-None-clause-ok
returns-in-None-clause-ok c = rw c.in-None.is at c.in_ok-found.ensures.ok
