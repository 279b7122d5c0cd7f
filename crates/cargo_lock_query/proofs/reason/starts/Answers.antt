use Rattle.std.proofs.Common.{◌≡◌, ◌∙◌, ℕ, List, true, false, sym, subst}
use Rattle.cargo_lock_query.specs.Steps.{IsOneCounted}
use Rattle.std.proofs.lemmas.Result.{IfOk-weaker}
use Rattle.cargo_lock_query.proofs.Starting.{starts-at-members, starts-at-roots}
use Rattle.cargo_lock_query.proofs.reason.starts.Goals as goal

pub returns-then-is_one_counted : goal.returns-then-is_one_counted
returns-then-is_one_counted c = λ to are.
    starts-at-roots c.args.graph.now to c.args.steps.now c.in_ok-roots.roots.items are c.in_ok-roots.ensures
    (subst (λ (ns : List ℕ). IsOneCounted c.args.steps.now ns) c.deref.ensures.value (c.is_one_counted.ensures.0 c.if-is_one_counted.true))

pub returns-else-is_one_counted : goal.returns-else-is_one_counted
returns-else-is_one_counted c = IfOk-weaker c.members.result _ _ (λ v h. λ to are.
    starts-at-members c.args.graph.now to c.args.steps.now c.in_ok-roots.roots.items v.items are c.in_ok-roots.ensures
    (λ counted. let e : false ≡ true = sym c.if-is_one_counted.false ∙ c.is_one_counted.ensures.1 (subst (λ (ns : List ℕ). IsOneCounted c.args.steps.now ns) (sym c.deref.ensures.value) counted) in cc e) h) c.members.ensures
