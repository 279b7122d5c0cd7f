-- The loop over the tokens of an expression.
use Rattle.std.proofs.Common.{◌≡◌, ◌∙◌, ◌||◌, ◌∷◌, [], ◌+◌, ◌<◌, ℕ, Bool, true, false, List, None, Option, String, add-one, ap, bytes_eq, drop, drop-cons, get_or, length, map, refl, string_bytes, sym}
use Rattle.std.specs.Prelude.{option_and_then}
use Rattle.std.specs.List.{list_any}
use Rattle.cargo_lock_licenses.specs.declared.token.Token.{Token}
use Rattle.cargo_lock_licenses.specs.Evaluation.{State, Steps, is_term, run, step}
use Rattle.cargo_lock_licenses.specs.Tokens.{token_of}

-- texts of the program and their bytes
pub any-of-texts : {Y : Type 0} (text : List ℕ) (allowed : List (String Y)) → list_any (λ t. bytes_eq (string_bytes t) text) allowed ≡ is_term (map string_bytes allowed) text
any-of-texts text [] = refl
any-of-texts text (t ∷ rest) = ap (λ b. bytes_eq (string_bytes t) text || b) (any-of-texts text rest)

split : (tokens : List Token) (i : ℕ) (token : Token) → i < length tokens → token ≡ get_or tokens i token → map token_of (drop i tokens) ≡ token_of token ∷ map token_of (drop (i + 1) tokens)
split tokens i token within is = ap (map token_of) (drop-cons tokens i token within) ∙ rw (add-one, ← is) refl

pub run-fits : (allowed : List (List ℕ)) (s after : State) (tokens : List Token) (i : ℕ) (token : Token) (b : Option Bool) → i < length tokens → token ≡ get_or tokens i token
    → run allowed s (map token_of (drop i tokens)) ≡ b → Steps (step allowed s (token_of token)) after true → run allowed after (map token_of (drop (i + 1) tokens)) ≡ b
run-fits allowed s after tokens i token b within is before fits =
    sym (ap (option_and_then (λ next. run allowed next (map token_of (drop (i + 1) tokens)))) fits)
    ∙ sym (ap (run allowed s) (split tokens i token within is)) ∙ before

pub run-refused : (allowed : List (List ℕ)) (s after : State) (tokens : List Token) (i : ℕ) (token : Token) (b : Option Bool) → i < length tokens → token ≡ get_or tokens i token
    → run allowed s (map token_of (drop i tokens)) ≡ b → Steps (step allowed s (token_of token)) after false → None ≡ b
run-refused allowed s after tokens i token b within is before fits =
    sym (ap (option_and_then (λ next. run allowed next (map token_of (drop (i + 1) tokens)))) fits)
    ∙ sym (ap (run allowed s) (split tokens i token within is)) ∙ before
