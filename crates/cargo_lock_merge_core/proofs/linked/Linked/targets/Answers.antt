use Rattle.std.proofs.Common.{◌≡◌, List, ap, subst, sym, ◌∙◌}
use Rattle.std.proofs.lemmas.Option.{same_Some}
use Rattle.std.proofs.lemmas.Result.{IfOk-weaker}
use Rattle.std.specs.List.{All, AllZip}
use Rattle.cargo_lock_parts.specs.Identity.{Identity, PackageData}
use Rattle.cargo_lock_graph.specs.Targets.{HasTarget, links}
use Rattle.cargo_lock_merge_core.specs.Linked.{AreReferredTo, IsResolved, RefersTo}
use Rattle.cargo_lock_merge_core.proofs.Linking.{resolved-at, targets-are}
use Rattle.cargo_lock_merge_core.proofs.linked.Linked.targets.Goals as goal

pub targets_of-requires : goal.targets_of-requires
targets_of-requires c =
    let packages : List PackageData = c.args.self.now in
    let q : PackageData = c.package-package.result.now in
    let whole : c.deref.result.now ≡ q.dependencies =
    c.deref.ensures.value ∙ ap (λ (p : PackageData). p.dependencies) c.«package».view_is in
    subst (λ (ds : List Identity). All (IsResolved packages) ds) (sym whole)
    (resolved-at packages c.args.at q c.package-package.ensures
    (subst (λ (ps : List PackageData). All (HasTarget ps) (links ps)) c.self.view_is c.self.invariant))

pub returns-clause-are : goal.returns-clause-are
returns-clause-are c =
    let packages : List PackageData = c.args.self.now in
    let q : PackageData = c.package-package.result.now in
    let whole : c.deref.result.now ≡ q.dependencies =
    c.deref.ensures.value ∙ ap (λ (p : PackageData). p.dependencies) c.«package».view_is in
    IfOk-weaker c.targets_of.result _ _
    (λ v h p here. subst (λ (r : PackageData). AreReferredTo packages r v.items)
    (same_Some q p (sym c.package-package.ensures ∙ here))
    (targets-are packages q v.items
    (subst (λ (ds : List Identity). AllZip (RefersTo packages) ds v.items) whole h)))
    c.targets_of.ensures.are
