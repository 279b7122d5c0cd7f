use Rattle.std.proofs.Common.{List, ℕ, map, string_bytes, subst, true, false}
use Rattle.cargo_lock_licenses.specs.Evaluation.{Steps, State, state_of, step}
use Rattle.cargo_lock_licenses.specs.Tokens.{token_of}
use Rattle.cargo_lock_licenses.proofs.Running.{run-fits, run-refused}
use Rattle.cargo_lock_licenses.proofs.evaluation.evaluate.Goals as goal

pub loop-token-preserved : goal.loop-token-preserved
loop-token-preserved c =
    let allowed : List (List ℕ) = map string_bytes c.args.allowed.now in
    let s : State = state_of c.loop-token.evaluation in
    let after : State = state_of c.read.new.self in
    let fits : Steps (step allowed s (token_of c.token-item.result)) after true = subst (Steps (step allowed s (token_of c.token-item.result)) after) c.if-not-branch.false c.in_ok-read.ensures in
    run-fits allowed s after c.args.tokens.now c.loop-token.token-index c.token-item.result _ c.loop-token-test.true c.token-item.is c.loop-token.invariant fits

pub returns-then-not-branch : goal.returns-then-not-branch
returns-then-not-branch c =
    let allowed : List (List ℕ) = map string_bytes c.args.allowed.now in
    let s : State = state_of c.loop-token.evaluation in
    let after : State = state_of c.read.new.self in
    let refused : Steps (step allowed s (token_of c.token-item.result)) after false = subst (Steps (step allowed s (token_of c.token-item.result)) after) c.if-not-branch.true c.in_ok-read.ensures in
    run-refused allowed s after c.args.tokens.now c.loop-token.token-index c.token-item.result _ c.loop-token-test.true c.token-item.is c.loop-token.invariant refused
