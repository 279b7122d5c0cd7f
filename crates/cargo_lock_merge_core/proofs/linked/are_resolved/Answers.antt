use Rattle.std.proofs.Common.{List, ap, subst, sym, ◌∙◌}
use Rattle.std.specs.List.{All}
use Rattle.std.proofs.lemmas.Bool.{false≢true}
use Rattle.std.proofs.lemmas.List.{take_all}
use Rattle.cargo_lock_parts.specs.Identity.{Identity, PackageData}
use Rattle.cargo_lock_graph.specs.Targets.{HasTarget, links}
use Rattle.cargo_lock_merge_core.specs.Linked.{IsResolved}
use Rattle.cargo_lock_merge_core.proofs.Linking.{all-more, links-resolved}
use Rattle.cargo_lock_merge_core.proofs.linked.are_resolved.Goals as goal

pub returns-then-not-each_resolves : goal.returns-then-not-each_resolves
returns-then-not-each_resolves c = λ yes. absurd (false≢true yes)

pub loop-package-preserved : goal.loop-package-preserved
loop-package-preserved c =
    let packages : List PackageData = c.args.groups.now.packages in
    all-more (λ (p : PackageData). All (IsResolved packages) p.dependencies) c.args.packages.now
    c.loop-package.package-index c.package-item.result c.loop-package-test.true c.package-item.is
    c.loop-package.invariant
    (subst (λ (ds : List Identity). All (IsResolved packages) ds)
    (c.deref.ensures.value ∙ ap (λ (p : PackageData). p.dependencies) c.«package».view_is)
    (c.each_resolves.ensures c.if-not-each_resolves.false))

pub returns : goal.returns
returns c = λ yes.
    let packages : List PackageData = c.args.groups.now.packages in
    subst (λ (ps : List PackageData). All (HasTarget ps) (links ps)) c.requires
    (links-resolved packages packages
    (subst (λ (ps : List PackageData). All (λ (p : PackageData). All (IsResolved packages) p.dependencies) ps)
    (take_all c.loop-package.package-index c.args.packages.now c.loop-package-test.false ∙ sym c.requires)
    c.loop-package.invariant))
