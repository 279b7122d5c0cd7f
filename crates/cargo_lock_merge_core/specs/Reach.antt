-- Places that lead to others.
use Rattle.std.specs.Prelude.{◌≡◌, ℕ, true, List, Some, map, slice_get}
use Rattle.std.specs.List.{Contains}
use Rattle.cargo_lock_merge_core.specs.declared.reach.Node.{Node}

-- the places of nodes
abbrev pub places_in : List Node → List ℕ
places_in = map (λ n. n.place)

-- the place is that of a root
abbrev pub IsRootPlace : List Node → ℕ → Type 0
IsRootPlace nodes p = (n : Node) × Contains nodes n × (n.place ≡ p) × (n.is_root ≡ true)

-- the node at the place p has the target d
abbrev pub LeadsToPlace : List Node → ℕ → ℕ → Type 0
LeadsToPlace nodes p d = (n : Node) × Contains nodes n × (n.place ≡ p) × Contains n.targets.now d

-- ---- the same by the indices of nodes. No public contract cites these.

-- the node at the index is a root
abbrev pub RootAt : List Node → ℕ → Type 0
RootAt nodes k = (n : Node) × (slice_get nodes k ≡ Some n) × (n.is_root ≡ true)

-- the place of the node at b is a target of the node at a
abbrev pub EdgeAt : List Node → ℕ → ℕ → Type 0
EdgeAt nodes a b = (n : Node) × (slice_get nodes a ≡ Some n)
    × ((d : ℕ) × Contains n.targets.now d × (slice_get (places_in nodes) b ≡ Some d))
