use Rattle.std.proofs.Common.{rules}
use Rattle.cargo_lock_audit.proofs.Ordered.{twice-refused}
use Rattle.cargo_lock_audit.proofs.database.apart.Goals as goal

pub returns-in-Some-clause-err : goal.returns-in-Some-clause-err
returns-in-Some-clause-err c = λ sorted.
    twice-refused c.args.files.items c.in-Some.place sorted (search rules) c.swap_remove.result (search rules)
