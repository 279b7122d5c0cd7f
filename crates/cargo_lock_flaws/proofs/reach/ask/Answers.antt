use Rattle.cargo_lock_flaws.proofs.Searching.{best-none}
use Rattle.cargo_lock_flaws.proofs.reach.ask.Goals as goal

pub returns-in_default-clause-reached : goal.returns-in_default-clause-reached
returns-in_default-clause-reached c = best-none c.args.groups.now.packages c.args.dependency.now
    c.args.search.now c.in_default.ensures
