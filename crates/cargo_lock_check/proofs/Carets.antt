-- A text with `^` for each `%5E`, one byte after another.
use Rattle.std.proofs.Common.{◌≡◌, ◌<◌, ◌+◌, ◌-◌, ℕ, zero, suc, true, false, List, [], ◌∷◌, ◌++◌, length, get_or, drop, codes, eqb, sym, ap, ◌∙◌, arith, append_assoc, drop-cons}
use Rattle.std.specs.List.{starts_with}
use Rattle.std.proofs.lemmas.Bool.{cond-true, cond-false}
use Rattle.cargo_lock_check.specs.Text.{with_carets_after}

next-byte : (text : List ℕ) (at : ℕ) → at < length text → drop at text ≡ get_or text at 0 ∷ drop (at + 1) text
next-byte text at low = let on : suc at ≡ at + 1 = omega arith in drop-cons text at 0 low ∙ ap (λ n. get_or text at 0 ∷ drop n text) on

-- a byte that is passed over
pub carets-skip : (n at : ℕ) (text : List ℕ) → 0 < n → at < length text → with_carets_after (n - 1) (drop (at + 1) text) ≡ with_carets_after n (drop at text)
carets-skip zero at text some low = absurd (omega (arith, some))
carets-skip (suc n) at text some low =
    let less : suc n - 1 ≡ n = omega arith in
    ap (λ k. with_carets_after k (drop (at + 1) text)) less ∙ ap (with_carets_after (suc n)) (sym (next-byte text at low))

-- an escaped `^`
pub carets-hit : (at : ℕ) (text plain : List ℕ) → at < length text → starts_with eqb (drop at text) (codes "%5E") ≡ true
    → (plain ++ 94 ∷ []) ++ with_carets_after 2 (drop (at + 1) text) ≡ plain ++ with_carets_after 0 (drop at text)
carets-hit at text plain low hit =
    let cons = next-byte text at low in
    let made = cond-true _ (94 ∷ with_carets_after 2 (drop (at + 1) text)) (get_or text at 0 ∷ with_carets_after 0 (drop (at + 1) text))
    (ap (λ t. starts_with eqb t (codes "%5E")) (sym cons) ∙ hit) in
    append_assoc plain (94 ∷ []) (with_carets_after 2 (drop (at + 1) text)) ∙ ap (λ t. plain ++ t) (sym made ∙ ap (with_carets_after 0) (sym cons))

-- another byte
pub carets-plain : (at : ℕ) (text plain : List ℕ) → at < length text → starts_with eqb (drop at text) (codes "%5E") ≡ false
    → (plain ++ get_or text at 0 ∷ []) ++ with_carets_after 0 (drop (at + 1) text) ≡ plain ++ with_carets_after 0 (drop at text)
carets-plain at text plain low miss =
    let cons = next-byte text at low in
    let made = cond-false _ (94 ∷ with_carets_after 2 (drop (at + 1) text)) (get_or text at 0 ∷ with_carets_after 0 (drop (at + 1) text))
    (ap (λ t. starts_with eqb t (codes "%5E")) (sym cons) ∙ miss) in
    append_assoc plain (get_or text at 0 ∷ []) (with_carets_after 0 (drop (at + 1) text)) ∙ ap (λ t. plain ++ t) (sym made ∙ ap (with_carets_after 0) (sym cons))
