use Rattle.std.proofs.Common.{List, Some, ℕ, map, string_bytes, subst}
use Rattle.cargo_lock_licenses.specs.Reading.{IsReading, tokens_of}
use Rattle.cargo_lock_licenses.proofs.Verdicts.{allowed-on, forbidden-on}
use Rattle.cargo_lock_licenses.proofs.verdict.verdict_on.Goals as goal

pub returns-then-branch : goal.returns-then-branch
returns-then-branch c =
    let text : List ℕ = string_bytes c.args.text.now in
    let reading : IsReading text (Some c.in-Some.expression) =
    subst (λ t. IsReading t (Some c.in-Some.expression)) c.deref.ensures (subst (IsReading c.deref.result.now) c.in-Some.is c.in_ok-parse.ensures) in
    allowed-on (map string_bytes c.args.allowed.now) c.args.package.now text (tokens_of c.in-Some.expression) (c.in_ok-is_permitted-in-Some).field-0 reading c.if-branch.true (c.in_ok-is_permitted-in-Some).ensures

pub returns : goal.returns
returns c =
    let text : List ℕ = string_bytes c.args.text.now in
    let reading : IsReading text (Some c.in-Some.expression) =
    subst (λ t. IsReading t (Some c.in-Some.expression)) c.deref.ensures (subst (IsReading c.deref.result.now) c.in-Some.is c.in_ok-parse.ensures) in
    forbidden-on (map string_bytes c.args.allowed.now) c.args.package.now text (tokens_of c.in-Some.expression) (c.in_ok-is_permitted-in-Some).field-0 reading c.if-branch.false (c.in_ok-is_permitted-in-Some).ensures
