use Rattle.std.proofs.Common.{All, List, subst, sym}
use Rattle.std.specs.BTreeMap.{get, keys}
use Rattle.cargo_lock_parts.specs.Identity.{PackageData}
use Rattle.cargo_lock_parts.specs.IdentityOrder.{identity_cmp}
use Rattle.cargo_lock_graph.specs.Targets.{AreEdgesOf, IsLastWith, IsOfPackage}
use Rattle.cargo_lock.proofs.dependency.tree.Tree.new.Goals as goal

pub invariant_of-result : goal.invariant_of-result
invariant_of-result c =
    let made = c.in_ok-graph.ensures in
    let same = sym made.packages in (
      subst (λ (ps : List PackageData). AreEdgesOf ps c.in_ok-graph.graph.edges) same made.edges,
      λ i. subst (λ (ps : List PackageData). IsLastWith ps i (get identity_cmp c.in_ok-graph.nodes i)) same (made.nodes i),
      subst (λ (ps : List PackageData). All (IsOfPackage ps) (keys c.in_ok-graph.nodes)) same made.keys,
    )
