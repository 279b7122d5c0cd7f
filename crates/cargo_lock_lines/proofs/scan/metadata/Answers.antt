use Rattle.std.proofs.Common.{◌≡◌, ◌∙◌, length, sym, arith, vec_len}
use Rattle.cargo_lock_lines.proofs.HeldWords.{Metadata-at, Not-zero}
use Rattle.cargo_lock_lines.proofs.scan.metadata.Goals as goal

pub returns : goal.returns
returns c =
    let words = c.in-Some-2.words in
    let len : length words.items ≡ vec_len words = omega (arith, words.ok.0) in
    Metadata-at words.items c.args.text.now c.after_empty_lines.result.now c.in-Some.below.now c.in-Some-2.rest.now (Not-zero _ _ len (sym c.is_empty.ensures ∙ c.if-is_empty.false))
    c.after_empty_lines.ensures c.in-Some.ensures (rw c.in-Some-2.is at c.in_ok-words.ensures)
