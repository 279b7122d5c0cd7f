use Rattle.std.proofs.Common.{Bool, List, ℕ, length, subst}
use Rattle.cargo_lock_graph.specs.Edges.{far_ends}
use Rattle.lists.specs.Marks.{IsMarked}
use Rattle.lists.specs.Places.{IsPlaces}
use Rattle.lists.proofs.Places.{places-alike, places-end}
use Rattle.cargo_lock_diagram.specs.Arrows.{AreArrows}
use Rattle.cargo_lock_diagram.specs.Reach.{IsReachableFromSome}
use Rattle.cargo_lock_diagram.proofs.Arrowing.{edges-among}
use Rattle.cargo_lock_diagram.proofs.scene.picture_from.Goals as goal

pub returns-clause-nodes : goal.returns-clause-nodes
returns-clause-nodes c =
    let marks : List Bool = c.in_ok-marks.marks.items in
    let nodes : List ℕ = c.in_ok-nodes.nodes.items in
    let count = length c.args.graph.now.packages in
    let far = far_ends c.args.direction c.args.graph.now.edges in
    let places : IsPlaces (IsMarked marks) (length marks) nodes = subst (λ (ms : List Bool). IsPlaces (IsMarked ms) (length ms) nodes) c.deref.ensures.value c.in_ok-nodes.ensures in
    places-alike (IsMarked marks) (IsReachableFromSome far c.args.starts.now) count nodes (λ k h. (c.in_ok-marks.ensures.marks k).0 h) (λ k h. (c.in_ok-marks.ensures.marks k).1 h)
    (places-end (IsMarked marks) (length marks) count nodes places c.in_ok-marks.ensures.count)

pub returns-clause-arrows : goal.returns-clause-arrows
returns-clause-arrows c =
    let marks : List Bool = c.in_ok-marks.marks.items in
    let nodes : List ℕ = c.in_ok-nodes.nodes.items in
    let places : IsPlaces (IsMarked marks) (length marks) nodes = subst (λ (ms : List Bool). IsPlaces (IsMarked ms) (length ms) nodes) c.deref.ensures.value c.in_ok-nodes.ensures in
    edges-among c.args.graph.now marks nodes c.in_ok-arrows.arrows.items c.in_ok-marks.ensures.count places
    (subst (λ (ms : List Bool). AreArrows c.args.graph.now ms (length c.args.graph.now.packages) c.in_ok-arrows.arrows.items) c.deref-2.ensures.value c.in_ok-arrows.ensures)
