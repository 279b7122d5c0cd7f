use Rattle.std.proofs.Common.{List, ℕ, Bool, arith, sym, ap, ◌∙◌, bytes_eq, codes}
use Rattle.cli_support.proofs.Arguments.{lock-left-out, no-lock, none-left-out}
use Rattle.cli_support.proofs.words.without_lock.Goals as goal

-- a text is `lock`
abbrev is_lock : List ℕ → Bool
is_lock text = bytes_eq text (codes "lock")

pub returns-in-len1-up : goal.returns-in-len1-up
returns-in-len1-up g c = lock-left-out g.S.AsStr.text c.args.words.now c.first-item.result (omega (arith, c.in-len1-up.len_at_least))
    (ap (λ x. is_lock (g.S.AsStr.text x)) (sym c.first-item.is) ∙ ap is_lock (sym c.as_str.ensures) ∙ sym c.eq.ensures ∙ c.if-eq.true)

pub returns-in_default : goal.returns-in_default
returns-in_default g c = none-left-out g.S.AsStr.text c.args.words.now c.in_default.len_below

pub returns-in_default-2 : goal.returns-in_default-2
returns-in_default-2 g c = no-lock g.S.AsStr.text c.args.words.now c.first-item.result (omega (arith, c.in-len1-up.len_at_least))
    (ap (λ x. is_lock (g.S.AsStr.text x)) (sym c.first-item.is) ∙ ap is_lock (sym c.as_str.ensures) ∙ sym c.eq.ensures ∙ c.if-eq.false)
