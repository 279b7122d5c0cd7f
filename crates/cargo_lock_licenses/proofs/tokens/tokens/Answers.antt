use Rattle.std.proofs.Common.{◌≡◌, ◌∙◌, ◌++◌, List, [], ap, append-nil, arith, drop, map, string_bytes, sym}
use Rattle.std.proofs.lemmas.List.{drop_all}
use Rattle.cargo_lock_licenses.specs.Tokens.{TokenData, token_of, word_tokens}
use Rattle.cargo_lock_licenses.specs.Tokens as spec
use Rattle.cargo_lock_licenses.proofs.Pieces.{next-byte, tokens-end}
use Rattle.cargo_lock_licenses.proofs.tokens.tokens.Goals as goal

pub loop-byte-preserved : goal.loop-byte-preserved
loop-byte-preserved c =
    let h = c.in_ok-put_byte.ensures in
    next-byte c.args.text.now c.as_bytes-byte-items.result.now _ _ _ _ c.loop-byte.byte-index c.as_bytes-byte-items.ensures.value
    (omega (arith, c.as_bytes-byte-items.ensures.len)) c.loop-byte.invariant.0 c.loop-byte.invariant.1 h.found h.word

pub returns : goal.returns
returns c =
    let h = c.in_ok-put_word.ensures in
    let over : drop c.loop-byte.byte-index c.args.text.now ≡ [] = drop_all c.loop-byte.byte-index c.args.text.now (omega (arith, c.as_bytes-byte-items.ensures.len)) in
    let found : List TokenData = map token_of c.loop-byte.found.items in
    sym (c.loop-byte.invariant.1
    ∙ ap (λ rest. found ++ spec.tokens (string_bytes c.loop-byte.word ++ rest)) over
    ∙ ap (λ w. found ++ spec.tokens w) (append-nil (string_bytes c.loop-byte.word))
    ∙ ap (λ ts. found ++ ts) (tokens-end (string_bytes c.loop-byte.word) c.loop-byte.invariant.0)
    ∙ sym h.found)
