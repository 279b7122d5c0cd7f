use Rattle.cargo_lock_c.specs.Merges.{LacksMerge}
use Rattle.cargo_lock_c.proofs.MergeTexts.{memory-lacks}
use Rattle.cargo_lock_c.proofs.Refusals.{refusal-passed}
use Rattle.cargo_lock_c.proofs.merge.read_and_merge.Goals as goal

pub returns-in_err-answer-clause-err : goal.returns-in_err-answer-clause-err
returns-in_err-answer-clause-err c =
    let refusal = c.in_err-answer.field-0.0 in
    refusal-passed (LacksMerge c.args.base.now c.args.ours.now c.args.theirs.now) c.from_residual-in_err-answer.result refusal c.from_residual-in_err-answer.ensures.1
    (memory-lacks c.args.base.now c.args.ours.now c.args.theirs.now refusal c.in_err-answer.ensures.err)

pub returns-clause-ok : goal.returns-clause-ok
returns-clause-ok c = (
  c.in_ok-inputs.inputs,
  c.in_ok-inputs.ensures.ok,
  c.comments.result,
  c.comments.ensures,
  c.in_ok-answer.ensures.ok,
)
