use Rattle.cargo_lock_merge.proofs.Assembling.{identity-at, none-at}
use Rattle.cargo_lock_merge.proofs.assemble.replacement.Goals as goal

pub returns-in_ok-of-in-Some-package_at-clause-ok :
    goal.returns-in_ok-of-in-Some-package_at-clause-ok
returns-in_ok-of-in-Some-package_at-clause-ok c =
    rw c.in-Some.is (identity-at c.args.merged.now c.in-Some.place c.in-Some-package_at.target.now
    c.in_ok-of-in-Some-package_at.field-0 c.in-Some-package_at.ensures
    c.in_ok-of-in-Some-package_at.ensures.ok)

pub returns-in-None-package_at-clause-ok : goal.returns-in-None-package_at-clause-ok
returns-in-None-package_at-clause-ok c =
    rw c.in-Some.is (none-at c.args.merged.now c.in-Some.place c.in-None-package_at.ensures)
