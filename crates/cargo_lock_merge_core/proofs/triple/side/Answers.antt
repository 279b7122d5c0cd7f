use Rattle.std.proofs.Common.{refl, subst}
use Rattle.cargo_lock_merge_core.specs.Refusals.{IsFault}
use Rattle.cargo_lock_merge_core.proofs.triple.side.Goals as goal

pub returns-in-Err-Refused-clause-err : goal.returns-in-Err-Refused-clause-err
returns-in-Err-Refused-clause-err c =
    (refl, λ all begins. subst (IsFault all c.args.packages.now.items) c.in-Err-Refused.field-0-is (c.in-Err-Refused.ensures.err all begins))
