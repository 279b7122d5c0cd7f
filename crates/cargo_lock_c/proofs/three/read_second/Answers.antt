use Rattle.std.proofs.Common.{subst, sym}
use Rattle.cargo_lock_c.specs.declared.refusal.Refusal.{Refusal}
use Rattle.cargo_lock_c.specs.Merges.{LacksMerge}
use Rattle.cargo_lock_c.proofs.MergeTexts.{lacks-second}
use Rattle.cargo_lock_c.proofs.three.read_second.Goals as goal

pub returns-in-Err-clause-err : goal.returns-in-Err-clause-err
returns-in-Err-clause-err c = λ base theirs first. subst (λ (r : Refusal). LacksMerge base c.args.bytes.now theirs r) (sym c.into_new.ensures)
    (lacks-second base c.args.bytes.now theirs c.in-Err.refusal c.in-Err.ensures.refused c.in-Err.ensures.below first)
