-- What a search has found so far of the first of the shortest chains from some nodes to each node.
-- No public contract cites these.
use Rattle.std.specs.Prelude.{◌≡◌, ◌+◌, ◌<◌, ◌≤◌, ◌⊎◌, ℕ, suc, true, List, [], ◌∷◌, ◌++◌, Option}
use Rattle.std.specs.Prelude.{Some, None, length, map, slice_get}
use Rattle.std.specs.List.{Contains}
use Rattle.cargo_lock_graph.specs.Drawing.{is_one_of}
use Rattle.cargo_lock_graph.specs.Edges.{GraphData}
use Rattle.cargo_lock_query.specs.Chains.{IsChainOfNeeds, IsNoWorse, needs}
use Rattle.cargo_lock_query.specs.Steps.{uncounted}
use Rattle.cargo_lock_query.specs.declared.first.FirstChains.{FirstChains}
use Rattle.cargo_lock_query.specs.declared.first.Link.{Link}

-- one list of places comes before another: where they first differ it has the lesser place
abbrev pub IsBeforeByPlaces : List ℕ → List ℕ → Type 0
IsBeforeByPlaces [] ys = ⊥
IsBeforeByPlaces (x ∷ xs) [] = ⊥
IsBeforeByPlaces (x ∷ xs) (y ∷ ys) = (x < y) ⊎ ((x ≡ y) × IsBeforeByPlaces xs ys)

-- one list is shorter than another, or as long and before it by its places
abbrev pub IsEarlier : List ℕ → List ℕ → Type 0
IsEarlier xs ys = (length xs < length ys) ⊎ ((length xs ≡ length ys) × IsBeforeByPlaces xs ys)

-- what a search has found: the links, and for each node the place of the link to it
pub record Linked : Type 0 where
  pub links : List Link
  pub places : List (Option ℕ)

-- what these chains are made of
abbrev pub linked_by : FirstChains → Linked
linked_by chains = record { links = chains.links.items; places = chains.places.items }

-- a link, and the chain that it ends
pub record Entry : Type 0 where
  pub link : Link
  pub chain : List ℕ

-- the chain at a place is its node alone, or goes on from a chain at a lower place
abbrev pub GoesOnFrom : List Entry → ℕ → Entry → Option ℕ → Type 0
GoesOnFrom trail i e None = e.chain ≡ e.link.node ∷ []
GoesOnFrom trail i e (Some p) = (p < i) × (front : Entry) × (slice_get trail p ≡ Some front)
    × (e.chain ≡ front.chain ++ e.link.node ∷ [])

-- a chain to the node was found that is no worse than this one
abbrev pub IsFoundBy : List Entry → ℕ → List ℕ → Type 0
IsFoundBy trail node chain = (i : ℕ) × (e : Entry) × (slice_get trail i ≡ Some e)
    × (e.link.node ≡ node) × IsNoWorse e.chain chain

-- The links are those of chains that begin at starts, each later than those before it, and one for
-- each node that has a place.
pub record IsTrail (graph : GraphData) (starts : List ℕ) (found : Linked)
    (trail : List Entry) : Type 0 where
  pub links : found.links ≡ map (λ e. e.link) trail
  pub leads : (i : ℕ) (e : Entry) → slice_get trail i ≡ Some e
      → IsChainOfNeeds graph starts e.link.node e.chain
  pub goes_on : (i : ℕ) (e : Entry) → slice_get trail i ≡ Some e
      → GoesOnFrom trail i e e.link.from
  pub ordered : (i j : ℕ) (e f : Entry) → i < j → slice_get trail i ≡ Some e
      → slice_get trail j ≡ Some f → IsEarlier e.chain f.chain
  pub has_place : (i : ℕ) (e : Entry) → slice_get trail i ≡ Some e
      → slice_get found.places e.link.node ≡ Some (Some i)
  pub placed : (k i : ℕ) → slice_get found.places k ≡ Some (Some i)
      → (e : Entry) × (slice_get trail i ≡ Some e) × (e.link.node ≡ k)
  pub room : uncounted found.places + length trail ≡ length found.places

-- Each start is found, and what the chains at places below the bound go on to.
pub record AreFollowed (graph : GraphData) (starts : List ℕ) (bound : ℕ)
    (found : Linked) : Type 0 where
  pub trail : List Entry
  pub is : IsTrail graph starts found trail
  pub count : length found.places ≡ length graph.packages
  pub from : (i p : ℕ) (e : Entry) → slice_get trail i ≡ Some e → e.link.from ≡ Some p
      → p < bound
  pub begun : (k : ℕ) → Contains starts k → IsFoundBy trail k (k ∷ [])
  pub closed : (i k : ℕ) (e : Entry) → i < bound → slice_get trail i ≡ Some e
      → is_one_of k (needs graph e.link.node) ≡ true → IsFoundBy trail k (e.chain ++ k ∷ [])

-- what all chains go on to is found
pub record AreFirstChains (graph : GraphData) (starts : List ℕ) (found : Linked) : Type 0 where
  pub bound : ℕ
  pub past : length found.links ≤ bound
  pub followed : AreFollowed graph starts bound found

-- a link to a node without a place was added, and the node got its place
pub record IsLinkAdded (node : ℕ) (from : Option ℕ) (old new : Linked) : Type 0 where
  pub bare : slice_get old.places node ≡ Some None
  pub here : slice_get new.places node ≡ Some (Some (length old.links))
  pub others : (k : ℕ) → ¬ (k ≡ node) → slice_get new.places k ≡ slice_get old.places k
  pub links : new.links ≡ old.links ++ record { node = node; from = from } ∷ []
  pub count : length new.places ≡ length old.places
  pub room : uncounted old.places ≡ suc (uncounted new.places)

-- such a link was added, or the node had a place and nothing changed
abbrev pub HasLinked : ℕ → Option ℕ → Linked → Linked → Type 0
HasLinked node from old new =
    ((i : ℕ) × (slice_get old.places node ≡ Some (Some i)) × (new ≡ old))
    ⊎ IsLinkAdded node from old new

-- the link goes on from one at a lower place, if from any
abbrev pub IsFromBelow : ℕ → Option ℕ → Type 0
IsFromBelow i None = Unit {0}
IsFromBelow i (Some p) = p < i
