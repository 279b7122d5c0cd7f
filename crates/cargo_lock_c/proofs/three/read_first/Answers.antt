use Rattle.cargo_lock_c.proofs.MergeTexts.{lacks-first}
use Rattle.cargo_lock_c.proofs.three.read_first.Goals as goal

pub returns-in-Err-clause-err : goal.returns-in-Err-clause-err
returns-in-Err-clause-err c = λ ours theirs. lacks-first c.args.bytes.now ours theirs c.in-Err.refusal c.in-Err.ensures.refused c.in-Err.ensures.below
