use Rattle.std.proofs.Common.{All, List, ℕ, subst, sym}
use Rattle.std.specs.BTreeMap.{get, is_at}
use Rattle.std.specs.Map.{keys_of, lookup}
use Rattle.cargo_lock_parts.specs.Identity.{Identity}
use Rattle.cargo_lock_parts.specs.IdentityOrder.{identity_cmp}
use Rattle.cargo_lock_graph.specs.Edges.{GraphData}
use Rattle.cargo_lock_graph.specs.Targets.{AreEdgesOf, IsLastWith, IsOfPackage}
use Rattle.cargo_lock.proofs.dependency.tree.TreeClone.clone.Goals as goal

pub invariant_of-result : goal.invariant_of-result
invariant_of-result c =
    let old = c.self.invariant in
    let same = sym c.in_ok-clone.ensures.cases in
    let nodes = sym c.in_ok-clone_nodes.ensures in
    let kept = c.self.inside.nodes in (
      subst (λ (g : GraphData). AreEdgesOf g.packages g.edges) same old.0,
      λ i. subst (λ (es : List (Identity × ℕ)). IsLastWith c.in_ok-clone.field-0.packages i (lookup (is_at (identity_cmp i)) es)) nodes
          (subst (λ (g : GraphData). IsLastWith g.packages i (get identity_cmp kept i)) same (old.1 i)),
      subst (λ (es : List (Identity × ℕ)). All (IsOfPackage c.in_ok-clone.field-0.packages) (keys_of es)) nodes
          (subst (λ (g : GraphData). All (IsOfPackage g.packages) (keys_of kept.entries)) same old.2),
    )
