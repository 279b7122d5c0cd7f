use Rattle.std.proofs.Common.{◌≡◌, ◌∙◌, ℕ, Bool, List, Some, ap, get_or, length, refl, rules, slice_get, subst, sym}
use Rattle.std.proofs.lemmas.List.{length-map}
use Rattle.std.proofs.lemmas.Option.{slice_get-get_or}
use Rattle.lists.specs.Chains.{OneLeadsTo}
use Rattle.lists.specs.Marks.{IsMarked}
use Rattle.lists.specs.Reach.{HasReached, ReachData, fresh}
use Rattle.lists.proofs.Searches.{search-end, search-long, search-next, search-start, waits-within}
use Rattle.cargo_lock_merge_core.specs.declared.reach.Node.{Node}
use Rattle.cargo_lock_merge_core.specs.Reach.{EdgeAt, RootAt, places_in}
use Rattle.cargo_lock_merge_core.proofs.Indexing.{by-place, edges-of}
use Rattle.cargo_lock_merge_core.proofs.reach.reached.Goals as goal

pub loop-at-init : goal.loop-at-init
loop-at-init c =
    let nodes : List Node = c.args.nodes.now in
    search-start (RootAt nodes) (EdgeAt nodes) (length nodes) (fresh (length nodes)) c.in_ok-search.search refl c.in_ok-search.ensures

pub bounds-nodes-at : goal.bounds-nodes-at
bounds-nodes-at c =
    let nodes : List Node = c.args.nodes.now in
    waits-within (RootAt nodes) (EdgeAt nodes) (length nodes) c.loop-at.search c.next.new.self c.in-Some.at c.loop-at.invariant c.in-Some.ensures

pub offset_bounds-nodes-at : goal.offset_bounds-nodes-at
offset_bounds-nodes-at c =
    let nodes : List Node = c.args.nodes.now in
    let low = waits-within (RootAt nodes) (EdgeAt nodes) (length nodes) c.loop-at.search c.next.new.self c.in-Some.at c.loop-at.invariant c.in-Some.ensures in
    search (rules, low)

pub follow-requires-clause-count : goal.follow-requires-clause-count
follow-requires-clause-count c =
    let nodes : List Node = c.args.nodes.now in
    ap (λ (ms : List Bool). length ms) c.in-Some.ensures.0 ∙ c.loop-at.invariant.long
    ∙ sym (ap (λ (ps : List ℕ). length ps) (c.deref.ensures.value ∙ c.in_ok-places.ensures) ∙ length-map nodes (λ (n : Node). n.place))

pub loop-at-preserved : goal.loop-at-preserved
loop-at-preserved c =
    let nodes : List Node = c.args.nodes.now in
    let at = c.in-Some.at in
    let popped : ReachData = c.next.new.self in
    let low = waits-within (RootAt nodes) (EdgeAt nodes) (length nodes) c.loop-at.search popped at c.loop-at.invariant c.in-Some.ensures in
    let is : c.deref.result.now ≡ places_in nodes = c.deref.ensures.value ∙ c.in_ok-places.ensures in
    search-next (RootAt nodes) (EdgeAt nodes) (length nodes) c.loop-at.search popped c.follow.new.search at c.loop-at.invariant c.in-Some.ensures
    (edges-of nodes at _ popped c.follow.new.search (slice_get-get_or nodes at _ low)
    (subst (λ (ps : List ℕ). HasReached (OneLeadsTo (λ d k. slice_get ps k ≡ Some d) (get_or nodes at _).targets.now) popped c.follow.new.search) is c.in_ok-follow.ensures))

pub returns-clause-count : goal.returns-clause-count
returns-clause-count c =
    let nodes : List Node = c.args.nodes.now in
    ap (λ (ms : List Bool). length ms) c.into_marks.ensures
    ∙ search-long (RootAt nodes) (EdgeAt nodes) (length nodes) c.loop-at.search c.next.new.self c.loop-at.invariant c.in_default.ensures

pub returns-clause-marks : goal.returns-clause-marks
returns-clause-marks c k p at =
    let nodes : List Node = c.args.nodes.now in
    let end = search-end (RootAt nodes) (EdgeAt nodes) (length nodes) c.loop-at.search c.next.new.self c.loop-at.invariant c.in_default.ensures k in
    let by = by-place nodes c.requires k p at in
    let marks = c.into_marks.ensures in (
      λ m. by.0 (end.0 (subst (λ (ms : List Bool). IsMarked ms k) marks m)),
      λ r. subst (λ (ms : List Bool). IsMarked ms k) (sym marks) (end.1 (by.1 r)),
    )
