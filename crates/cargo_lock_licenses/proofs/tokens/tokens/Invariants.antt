use Rattle.std.proofs.Common.{◌≡◌, ◌++◌, drop, map, string_bytes}
use Rattle.cargo_lock_licenses.specs.Tokens.{token_of}
use Rattle.cargo_lock_licenses.specs.Tokens as spec
use Rattle.cargo_lock_licenses.proofs.Pieces.{IsWord}
use Rattle.cargo_lock_licenses.proofs.tokens.tokens.Given as goal

-- the word is of letters, and with what is left of the text it gives the other tokens
abbrev pub invariant-loop-byte : goal.invariant-loop-byte
invariant-loop-byte l = IsWord (string_bytes l.word) × (spec.tokens l.text
    ≡ map token_of l.found.items ++ spec.tokens (string_bytes l.word ++ drop l.byte-index l.text))
