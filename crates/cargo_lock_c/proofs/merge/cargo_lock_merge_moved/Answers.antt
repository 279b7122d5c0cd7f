use Rattle.std.proofs.Common.{string_bytes}
use Rattle.cargo_lock_c.specs.declared.merge.Part.TheVariants.{Moved}
use Rattle.cargo_lock_c.specs.Merges.{IsMergeText, LacksMerge}
use Rattle.cargo_lock_c.proofs.MergeTexts.{answer-refusal, answer-text}
use Rattle.cargo_lock_c.proofs.merge.cargo_lock_merge_moved.Goals as goal

pub returns-in-Ok : goal.returns-in-Ok
returns-in-Ok c =
    answer-text (IsMergeText Moved c.args.base.now c.args.ours.now c.args.theirs.now) (LacksMerge c.args.base.now c.args.ours.now c.args.theirs.now)
    c.in-Ok.answer.ending (string_bytes c.in-Ok.answer.text) _ _ _ _ _ c.in-Ok.ensures.ok c.hand_out_answer.ensures

pub returns-in-Err : goal.returns-in-Err
returns-in-Err c =
    answer-refusal (IsMergeText Moved c.args.base.now c.args.ours.now c.args.theirs.now) (LacksMerge c.args.base.now c.args.ours.now c.args.theirs.now)
    c.in-Err.refusal _ _ _ c.status.ensures c.in-Err.ensures.err
