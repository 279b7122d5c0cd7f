use Rattle.std.proofs.Common.{◌≡◌, drop, map, string_bytes}
use Rattle.cargo_lock_licenses.specs.Evaluation.{evaluated, run, state_of}
use Rattle.cargo_lock_licenses.specs.Tokens.{token_of}
use Rattle.cargo_lock_licenses.proofs.evaluation.evaluate.Given as goal

-- what is left of the tokens decides
abbrev pub invariant-loop-token : goal.invariant-loop-token
invariant-loop-token l = run (map string_bytes l.allowed) (state_of l.evaluation) (map token_of (drop l.token-index l.tokens))
    ≡ evaluated (map string_bytes l.allowed) (map token_of l.tokens)
