use Rattle.std.proofs.Common.{◌≡◌, ◌∙◌, ℕ, Bool, List, ap, length, subst, sym}
use Rattle.std.specs.List.{Contains}
use Rattle.cargo_lock_graph.specs.declared.graph.EdgeDirection.TheVariants.{Outgoing}
use Rattle.cargo_lock_graph.specs.Edges.{far_ends}
use Rattle.lists.specs.Chains.{LeadsToEach}
use Rattle.lists.specs.Marks.{IsMarked}
use Rattle.lists.specs.Reach.{HasReached, fresh}
use Rattle.lists.proofs.Searches.{search-end, search-next, search-start}
use Rattle.cargo_lock_bom.proofs.ReachedNodes.{reachable-is}
use Rattle.cargo_lock_bom.proofs.reach.reached_from.Goals as goal

pub loop-node-init : goal.loop-node-init
loop-node-init c =
    search-start (λ k. k ≡ c.args.start) (LeadsToEach (far_ends Outgoing c.args.graph.now.edges)) (length c.args.graph.now.packages)
    c.in_ok-search.search c.reach.new.self (c.in_ok-search.ensures ∙ ap fresh c.node_count.ensures)
    (subst (λ (m : ℕ). HasReached (λ k. k ≡ m) c.in_ok-search.search c.reach.new.self) c.index.ensures c.in_ok-reach.ensures)

pub loop-node-preserved : goal.loop-node-preserved
loop-node-preserved c =
    let far : ℕ → List ℕ = far_ends Outgoing c.args.graph.now.edges in
    let node : ℕ = c.in-Some.node in
    search-next (λ k. k ≡ c.args.start) (LeadsToEach far) (length c.args.graph.now.packages) c.loop-node.search c.next.new.self c.reach_all.new.self node
    c.loop-node.invariant c.in-Some.ensures
    (subst (λ (ns : List ℕ). HasReached (Contains ns) c.next.new.self c.reach_all.new.self)
    (c.deref.ensures.value ∙ c.in_ok-ends.ensures.are ∙ ap far c.new-in-Some.ensures) c.in_ok-reach_all.ensures)

pub returns-clause-marks : goal.returns-clause-marks
returns-clause-marks c = λ k.
    let far : ℕ → List ℕ = far_ends Outgoing c.args.graph.now.edges in
    let end = search-end (λ n. n ≡ c.args.start) (LeadsToEach far) (length c.args.graph.now.packages) c.loop-node.search c.next.new.self c.loop-node.invariant c.in_default.ensures k in
    let is = reachable-is far c.args.start k in
    let marks = c.into_marks.ensures in (
      λ m. is.0 (end.0 (subst (λ (ms : List Bool). IsMarked ms k) marks m)),
      λ r. subst (λ (ms : List Bool). IsMarked ms k) (sym marks) (end.1 (is.1 r)),
    )
