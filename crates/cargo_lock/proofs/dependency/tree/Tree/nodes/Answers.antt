use Rattle.std.proofs.Common.{All, subst}
use Rattle.std.specs.BTreeMap.{get, keys}
use Rattle.cargo_lock_parts.specs.IdentityOrder.{identity_cmp}
use Rattle.cargo_lock_graph.specs.Targets.{IsLastWith, IsOfPackage}
use Rattle.cargo_lock.specs.Trees.{TreeData}
use Rattle.cargo_lock.proofs.dependency.tree.Tree.nodes.Goals as goal

pub returns-clause-last : goal.returns-clause-last
returns-clause-last c i =
    subst (λ (t : TreeData). IsLastWith t.graph.packages i (get identity_cmp c.self.inside.nodes i)) c.self.view_is (c.self.invariant.1 i)

pub returns-clause-keys : goal.returns-clause-keys
returns-clause-keys c = subst (λ (t : TreeData). All (IsOfPackage t.graph.packages) (keys c.self.inside.nodes)) c.self.view_is c.self.invariant.2
