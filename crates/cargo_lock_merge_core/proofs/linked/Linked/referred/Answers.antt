use Rattle.std.proofs.Common.{ℕ, List, MatchOption, Option, inl, subst}
use Rattle.cargo_lock_parts.specs.Identity.{Identity, PackageData}
use Rattle.cargo_lock_graph.specs.Targets.{IsLost, IsTarget}
use Rattle.cargo_lock_merge_core.specs.Linked.{IsStatedAt}
use Rattle.cargo_lock_merge_core.proofs.Linking.{either-refers}
use Rattle.cargo_lock_merge_core.proofs.linked.Linked.referred.Goals as goal

pub returns-in-Some-clause-ok : goal.returns-in-Some-clause-ok
returns-in-Some-clause-ok c =
    let packages : List PackageData = c.args.self.now in
    let i : Identity = c.args.identity.now in
    inl (subst (λ (o : Option ℕ). MatchOption o ((k : ℕ) → ¬ IsStatedAt packages i k) (IsStatedAt packages i))
    c.in-Some.is c.in_ok-at.ensures.ok)

pub returns-in-None-clause-ok : goal.returns-in-None-clause-ok
returns-in-None-clause-ok c =
    let packages : List PackageData = c.args.self.now in
    let i : Identity = c.args.identity.now in
    let none : (k : ℕ) → ¬ IsStatedAt packages i k =
    subst (λ (o : Option ℕ). MatchOption o ((k : ℕ) → ¬ IsStatedAt packages i k) (IsStatedAt packages i))
    c.in-None.is c.in_ok-at.ensures.ok in
    either-refers packages i c.target.result none
    (subst (λ (ps : List PackageData). MatchOption c.target.result (IsLost ps i) (IsTarget ps i))
    c.self.view_is c.target.ensures)
