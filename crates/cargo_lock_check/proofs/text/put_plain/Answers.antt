use Rattle.std.proofs.Common.{◌≡◌, ◌∙◌, ◌++◌, ◌+◌, ℕ, List, ap, arith, drop, sym}
use Rattle.cargo_lock_check.specs.Text.{with_carets_after}
use Rattle.cargo_lock_check.proofs.Carets.{carets-hit, carets-skip}
use Rattle.cargo_lock_check.proofs.text.put_plain.Goals as goal

pub returns-then-has_escape : goal.returns-then-has_escape
returns-then-has_escape c =
    let low = c.if-rest-gt0.false in
    let none : 0 ≡ c.args.rest = omega (arith, low) in
    let text = c.args.text.now in
    let at = c.args.at in
    ap (λ (ys : List ℕ). ys ++ with_carets_after 2 (drop (at + 1) text)) c.in_ok-push.ensures.items
    ∙ carets-hit at text c.args.plain.now.items c.requires (sym c.has_escape.ensures ∙ c.if-has_escape.true)
    ∙ ap (λ n. c.args.plain.now.items ++ with_carets_after n (drop at text)) none

pub returns-then-rest-gt0 : goal.returns-then-rest-gt0
returns-then-rest-gt0 c =
    ap (λ (ys : List ℕ). c.args.plain.now.items ++ ys) (carets-skip c.args.rest c.args.at c.args.text.now c.if-rest-gt0.true c.requires)
