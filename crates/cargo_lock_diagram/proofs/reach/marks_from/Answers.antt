use Rattle.std.proofs.Common.{◌∙◌, ℕ, Bool, List, ap, length, subst, sym}
use Rattle.std.specs.List.{Contains}
use Rattle.cargo_lock_graph.specs.Edges.{far_ends}
use Rattle.lists.specs.Chains.{LeadsToEach}
use Rattle.lists.specs.Marks.{IsMarked}
use Rattle.lists.specs.Reach.{HasReached, fresh}
use Rattle.lists.proofs.Searches.{search-end, search-next, search-start}
use Rattle.cargo_lock_diagram.proofs.ReachedNodes.{reached-is}
use Rattle.cargo_lock_diagram.proofs.reach.marks_from.Goals as goal

pub loop-place-init : goal.loop-place-init
loop-place-init c =
    search-start (Contains c.args.starts.now) (LeadsToEach (far_ends c.args.direction c.args.graph.now.edges)) (length c.args.graph.now.packages)
    c.in_ok-search.search c.reach_all.new.search (c.in_ok-search.ensures ∙ ap fresh c.node_count.ensures) c.in_ok-reach_all.ensures

pub loop-place-preserved : goal.loop-place-preserved
loop-place-preserved c =
    let far : ℕ → List ℕ = far_ends c.args.direction c.args.graph.now.edges in
    let place : ℕ = c.in-Some.place in
    search-next (Contains c.args.starts.now) (LeadsToEach far) (length c.args.graph.now.packages) c.loop-place.search c.next.new.self c.reach_all-in-Some.new.search place
    c.loop-place.invariant c.in-Some.ensures
    (subst (λ (ns : List ℕ). HasReached (Contains ns) c.next.new.self c.reach_all-in-Some.new.search)
    (c.deref.ensures.value ∙ c.in_ok-ends.ensures.are ∙ ap far c.new-in-Some.ensures) c.in_ok-reach_all-2.ensures)

pub returns-clause-marks : goal.returns-clause-marks
returns-clause-marks c = λ k.
    let far : ℕ → List ℕ = far_ends c.args.direction c.args.graph.now.edges in
    let end = search-end (Contains c.args.starts.now) (LeadsToEach far) (length c.args.graph.now.packages) c.loop-place.search c.next.new.self c.loop-place.invariant c.in_default.ensures k in
    let is = reached-is far c.args.starts.now k in
    let marks = c.into_marks.ensures in (
      λ m. is.0 (end.0 (subst (λ (ms : List Bool). IsMarked ms k) marks m)),
      λ r. subst (λ (ms : List Bool). IsMarked ms k) (sym marks) (end.1 (is.1 r)),
    )
