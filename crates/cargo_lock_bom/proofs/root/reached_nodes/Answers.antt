use Rattle.std.proofs.Common.{List, Bool, length, subst}
use Rattle.lists.specs.Marks.{IsMarked}
use Rattle.lists.specs.Places.{IsPlaces}
use Rattle.lists.proofs.Places.{places-alike, places-end}
use Rattle.cargo_lock_bom.specs.Root.{EdgesLeadTo}
use Rattle.cargo_lock_bom.proofs.root.reached_nodes.Goals as goal

pub returns : goal.returns
returns c =
    let marks = c.in_ok-marks.marks.items in
    let root = c.args.root in
    let nodes = c.in_ok-nodes.nodes.items in
    let marked = subst (λ (ms : List Bool). IsPlaces (IsMarked ms) (length ms) nodes) c.as_slice.ensures.value c.in_ok-nodes.ensures in
    places-alike (IsMarked marks) (EdgesLeadTo c.args.graph.now root) (length c.args.graph.now.packages) nodes
    (λ k m. (c.in_ok-marks.ensures.marks k).0 m) (λ k r. (c.in_ok-marks.ensures.marks k).1 r)
    (places-end (IsMarked marks) (length marks) (length c.args.graph.now.packages) nodes marked c.in_ok-marks.ensures.count)
