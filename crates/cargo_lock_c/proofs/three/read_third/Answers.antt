use Rattle.std.proofs.Common.{subst, sym}
use Rattle.cargo_lock_c.specs.declared.refusal.Refusal.{Refusal}
use Rattle.cargo_lock_c.specs.Merges.{LacksMerge}
use Rattle.cargo_lock_c.proofs.MergeTexts.{lacks-third}
use Rattle.cargo_lock_c.proofs.three.read_third.Goals as goal

pub returns-in-Err-clause-err : goal.returns-in-Err-clause-err
returns-in-Err-clause-err c = λ base ours first second. subst (λ (r : Refusal). LacksMerge base ours c.args.bytes.now r) (sym c.into_third.ensures)
    (lacks-third base ours c.args.bytes.now c.in-Err.refusal c.in-Err.ensures.refused c.in-Err.ensures.below first second)
