use Rattle.std.proofs.Common.{◌≡◌, ◌∙◌, ℕ, List, rules, string_bytes, subst, sym}
use Rattle.cargo_lock_c.specs.Documents.{FitsNone, IsWhyText}
use Rattle.cargo_lock_c.proofs.HandedOut.{handed-answer}
use Rattle.cargo_lock_c.proofs.why.cargo_lock_why.Goals as goal

pub returns-in-Ok-answers-clause-why : goal.returns-in-Ok-answers-clause-why
returns-in-Ok-answers-clause-why c =
    let same : c.as_bytes.result.now ≡ string_bytes c.in-Ok-answers.answers = search rules in
    let spec : c.in-Ok.spec.now ≡ c.args.spec.now = search rules in
    handed-answer (IsWhyText c.args.text.now c.args.spec.now c.args.all) c.as_bytes.result.now _ _ _ _ _
    (rw (same, ← spec) c.in-Ok-answers.ensures.ok) c.hand_out.ensures.handed

pub returns-in-Err-clause-unresolved : goal.returns-in-Err-clause-unresolved
returns-in-Err-clause-unresolved c = λ seven. c.in-Err.ensures.unresolved (sym c.status-in-Err.ensures ∙ seven)

pub returns-in-Err-clause-nothing_fits : goal.returns-in-Err-clause-nothing_fits
returns-in-Err-clause-nothing_fits c =
    let spec : c.in-Ok.spec.now ≡ c.args.spec.now = search rules in
    λ thirteen. subst (λ (s : List ℕ). FitsNone c.args.text.now s) spec (c.in-Err.ensures.nothing_fits (sym c.status-in-Err.ensures ∙ thirteen))
