use Rattle.std.proofs.Common.{◌≡◌, ◌++◌, drop, map, string_bytes}
use Rattle.cargo_lock_licenses.specs.Terms.{Nothing, begun_of, terms_behind}
use Rattle.cargo_lock_licenses.specs.Tokens.{token_of}
use Rattle.cargo_lock_licenses.proofs.terms.terms_of.Given as goal

-- with what is left of the tokens, the terms so far are all
abbrev pub invariant-loop-token : goal.invariant-loop-token
invariant-loop-token l = map string_bytes l.terms.items ++ terms_behind (begun_of l.begun) (map token_of (drop l.token-index l.tokens))
    ≡ terms_behind Nothing (map token_of l.tokens)
