use Rattle.std.proofs.Common.{ℕ, List, MatchOption, subst}
use Rattle.std.proofs.lemmas.Result.{IfOk-weaker}
use Rattle.cargo_lock_parts.specs.Identity.{PackageData}
use Rattle.cargo_lock_merge_core.specs.Linked.{IsStatedAt}
use Rattle.cargo_lock_merge_core.proofs.linked.Linked.stated.Goals as goal

pub returns-clause-ok : goal.returns-clause-ok
returns-clause-ok c =
    IfOk-weaker c.of_own_words.result _ _
    (λ v h. subst (λ (ps : List PackageData).
    MatchOption v ((k : ℕ) → ¬ IsStatedAt ps c.args.identity.now k) (IsStatedAt ps c.args.identity.now))
    c.self.view_is h)
    c.of_own_words.ensures.ok
