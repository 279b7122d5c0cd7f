use Rattle.std.proofs.Common.{inl, inr}
use Rattle.cargo_lock_c.proofs.Refusals.{if_ok-follows}
use Rattle.cargo_lock_c.proofs.merge.answer_of.Goals as goal

pub returns-in-Ok-clause-ok : goal.returns-in-Ok-clause-ok
returns-in-Ok-clause-ok c = if_ok-follows _ _ c.merge_answer.result (λ answer about. inl (c.in-Ok.merge, c.in-Ok.ensures.ok, about)) c.merge_answer.ensures.ok

pub returns-in-Err-clause-ok : goal.returns-in-Err-clause-ok
returns-in-Err-clause-ok c = if_ok-follows _ _ c.error_answer.result (λ answer about. inr (c.in-Err.error, c.in-Err.ensures.err, about)) c.error_answer.ensures.ok
