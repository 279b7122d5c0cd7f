use Rattle.std.proofs.Common.{List, subst, sym}
use Rattle.std.specs.List.{All}
use Rattle.cargo_lock_parts.specs.Identity.{PackageData}
use Rattle.cargo_lock_graph.specs.Targets.{HasTarget, links}
use Rattle.cargo_lock_edges.proofs.OwnLaws.{links-found}
use Rattle.cargo_lock_merge_core.proofs.linked.Linked.of.Goals as goal

pub are_resolved-requires : goal.are_resolved-requires
are_resolved-requires c = c.in_ok-groups.ensures

pub invariant_of-result : goal.invariant_of-result
invariant_of-result c =
    subst (λ (ps : List PackageData). All (HasTarget ps) (links ps)) (sym c.in_ok-groups.ensures)
    (c.are_resolved.ensures c.if-are_resolved.true)

pub invariant_of-result-2 : goal.invariant_of-result-2
invariant_of-result-2 c =
    let packages : List PackageData = c.args.packages.now in
    subst (λ (ps : List PackageData). All (HasTarget ps) (links ps)) (sym c.in_ok-groups.ensures)
    (links-found packages (links packages) _ c.in_ok-own_graph.ensures.ok.edges)
