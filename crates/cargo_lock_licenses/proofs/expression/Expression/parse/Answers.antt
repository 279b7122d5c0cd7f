use Rattle.std.proofs.Common.{◌≡◌, ◌∙◌, [], List, ap, false, is_some, map, subst, sym, true}
use Rattle.cargo_lock_licenses.specs.Evaluation.{evaluated}
use Rattle.cargo_lock_licenses.specs.Grammar.{ReadsAs}
use Rattle.cargo_lock_licenses.specs.Tokens.{TokenData, token_of, tokens}
use Rattle.cargo_lock_licenses.proofs.Readings.{no-tree, tree-of}
use Rattle.cargo_lock_licenses.proofs.expression.Expression.parse.Goals as goal

pub returns-then-branch : goal.returns-then-branch
returns-then-branch c =
    let ts : List TokenData = map token_of c.in_ok-tokens.tokens.items in
    let same : ts ≡ tokens c.args.text.now = c.in_ok-tokens.ensures in
    let is : is_some (evaluated [] ts) ≡ true = ap (λ xs. is_some (evaluated [] (map token_of xs))) (sym c.deref.ensures.value) ∙ sym c.in_ok-is_expression.ensures ∙ c.if-branch.true in
    let found = tree-of ts is in
    (same, (found.0, subst (λ xs. ReadsAs xs found.0) same found.1))

pub returns-else-branch : goal.returns-else-branch
returns-else-branch c =
    let ts : List TokenData = map token_of c.in_ok-tokens.tokens.items in
    let same : ts ≡ tokens c.args.text.now = c.in_ok-tokens.ensures in
    let is : is_some (evaluated [] ts) ≡ false = ap (λ xs. is_some (evaluated [] (map token_of xs))) (sym c.deref.ensures.value) ∙ sym c.in_ok-is_expression.ensures ∙ c.if-branch.false in
    λ e reads. no-tree ts is e (subst (λ xs. ReadsAs xs e) (sym same) reads)
