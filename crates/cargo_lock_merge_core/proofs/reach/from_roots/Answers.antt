use Rattle.std.proofs.Common.{List, arith, false, length, subst, sym}
use Rattle.std.proofs.lemmas.List.{length-replicate}
use Rattle.std.proofs.lemmas.Option.{slice_get-get_or, slice_get_within}
use Rattle.lists.specs.Reach.{HasReached, ReachData, fresh}
use Rattle.lists.proofs.ReachedPlaces.{HoldsBelow, below-all, below-next, below-none, below-pass}
use Rattle.cargo_lock_merge_core.specs.declared.reach.Node.{Node}
use Rattle.cargo_lock_merge_core.specs.Reach.{RootAt}
use Rattle.cargo_lock_merge_core.proofs.Indexing.{root-here, root-not}
use Rattle.cargo_lock_merge_core.proofs.reach.from_roots.Goals as goal
use Rattle.cargo_lock_merge_core.proofs.reach.from_roots.Goals.{then-node+in_ok-reach, else-node}

pub loop-at-init : goal.loop-at-init
loop-at-init c =
    let nodes : List Node = c.args.nodes.now in
    subst (λ (s : ReachData). HasReached (HoldsBelow (RootAt nodes) 0) (fresh (length nodes)) s) (sym c.in_ok-search.ensures)
    (below-none (RootAt nodes) (fresh (length nodes)))

pub reach-requires : goal.reach-requires
reach-requires c =
    let low = c.loop-at-test.true in
    let count = c.loop-at.invariant.count in
    let long = length-replicate (length c.args.nodes.now) false in
    omega (arith, low, count, long)

pub loop-at-preserved : goal.loop-at-preserved
loop-at-preserved c =
    let nodes : List Node = c.args.nodes.now in
    let at = c.loop-at.at in
    let start : ReachData = fresh (length nodes) in
    elim c.if-node.branch [
      | then-node+in_ok-reach w ↦ rw w.search-is
          (below-next (RootAt nodes) at start c.loop-at.search w.reach.new.self
          (root-here nodes at _ (slice_get-get_or nodes at _ c.loop-at-test.true) w.if-node.true) c.loop-at.invariant w.in_ok-reach.ensures)
      | else-node w ↦ rw w.search-is
          (below-pass (RootAt nodes) at start c.loop-at.search
          (root-not nodes at _ (slice_get-get_or nodes at _ c.loop-at-test.true) w.if-node.false) c.loop-at.invariant)
    ]

pub returns : goal.returns
returns c =
    let nodes : List Node = c.args.nodes.now in
    let past = c.loop-at-test.false in
    below-all (RootAt nodes) c.loop-at.at (fresh (length nodes)) c.loop-at.search
    (λ k h. let low = slice_get_within nodes k h.0 h.1 in omega (arith, low, past)) c.loop-at.invariant
