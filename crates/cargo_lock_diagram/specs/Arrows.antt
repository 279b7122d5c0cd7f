-- The arrows so far. No public contract cites these.
use Rattle.std.specs.Prelude.{◌<◌, ◌↔◌, ℕ, Bool, false, List, AllPairs, map}
use Rattle.std.specs.Prelude.{slice_get, unwrap_or}
use Rattle.std.specs.List.{Contains, filter}
use Rattle.cargo_lock_graph.specs.Edges.{GraphData}
use Rattle.cargo_lock_diagram.specs.Scene.{ComesBefore}
use Rattle.cargo_lock_query.specs.Chains.{needs}
use Rattle.cargo_lock_diagram.specs.declared.scene.Arrow.{Arrow}
use Rattle.lists.specs.Marks.{IsMarked}

-- the node has a mark
abbrev pub is_marked : List Bool → ℕ → Bool
is_marked marks node = unwrap_or (slice_get marks node) false

-- the arrows from a node to those of some nodes that have marks
abbrev pub arrows_to : List Bool → ℕ → List ℕ → List Arrow
arrows_to marks node targets =
    map (λ target. record { from = node; to = target }) (filter (is_marked marks) targets)

-- the arrows from the nodes below the bound are the edges among the nodes with marks
pub record AreArrows (graph : GraphData) (marks : List Bool) (bound : ℕ)
    (arrows : List Arrow) : Type 0 where
  pub listed : (a b : ℕ) → Contains arrows (record { from = a; to = b })
      ↔ ((a < bound) × IsMarked marks a × IsMarked marks b × Contains (needs graph a) b)
  pub in_order : AllPairs ComesBefore arrows
