use Rattle.std.proofs.Common.{◌≡◌, ◌∙◌, List, ℕ, length, map, sym, arith, vec_len, Bor}
use Rattle.cargo_lock_lines.proofs.HeldWords.{List-at, Some-words}
use Rattle.cargo_lock_lines.proofs.scan.dependencies.Goals as goal

pub returns-in-Some-after : goal.returns-in-Some-after
returns-in-Some-after c =
    let words = c.in_ok-words.words in
    let len : length words.items ≡ vec_len words = omega (arith, words.ok.0) in
    List-at (map (λ (w : Bor (List ℕ)). w.now) words.items) c.args.text.now c.in-Some.list.now c.in_ok-words.end.now c.in-Some-after.rest.now
    (Some-words words.items (vec_len words) len (sym c.is_empty.ensures ∙ c.if-is_empty.false)) c.in-Some.ensures c.in_ok-words.ensures c.in-Some-after.ensures
