-- How many steps it is from each node to one node, and what a search for it has found so far. No
-- public contract cites these.
use Rattle.std.specs.Prelude.{◌≡◌, ◌+◌, ◌<◌, ◌≤◌, ◌⊎◌, ℕ, suc, true, List, [], ◌∷◌, Option}
use Rattle.std.specs.Prelude.{Some, None, IfSome, length, slice_get}
use Rattle.std.specs.List.{Contains}
use Rattle.cargo_lock_graph.specs.Drawing.{is_one_of}
use Rattle.cargo_lock_graph.specs.Edges.{GraphData}
use Rattle.cargo_lock_graph.specs.Paths.{IsPath}
use Rattle.cargo_lock_query.specs.Chains.{IsNoWorse, needs}
use Rattle.cargo_lock_query.specs.declared.chain.Found.{Found}
use Rattle.cargo_lock_query.specs.declared.steps.Search.{Search}

-- the node has this count of steps
abbrev pub HasSteps : List (Option ℕ) → ℕ → ℕ → Type 0
HasSteps steps node n = slice_get steps node ≡ Some (Some n)

-- one of the nodes has a count
abbrev pub IsOneCounted : List (Option ℕ) → List ℕ → Type 0
IsOneCounted steps nodes = (node : ℕ) × (n : ℕ) × Contains nodes node × HasSteps steps node n

-- how many nodes have no count
abbrev pub uncounted : List (Option ℕ) → ℕ
uncounted [] = 0
uncounted (None ∷ steps) = suc (uncounted steps)
uncounted (Some n ∷ steps) = uncounted steps

-- a path of so many steps leads from a node to another
abbrev pub IsAway : GraphData → ℕ → ℕ → ℕ → Type 0
IsAway graph to node n = (path : List ℕ) × IsPath (needs graph) node path to × (length path ≡ n)

-- Each node from which a path leads to the node has a count of steps. A path of so many steps is
-- there, and none is shorter.
pub record AreStepsTo (graph : GraphData) (to : ℕ) (steps : List (Option ℕ)) : Type 0 where
  pub sound : (node n : ℕ) → HasSteps steps node n → IsAway graph to node n
  pub least : (node : ℕ) (path : List ℕ) → IsPath (needs graph) node path to
      → (n : ℕ) × HasSteps steps node n × (n ≤ length path)

-- what a search has met: the counts of steps, and the nodes of the greatest count
pub record Met : Type 0 where
  pub steps : List (Option ℕ)
  pub newest : List ℕ

-- what this search has met
abbrev pub met_by : Search → Met
met_by search = record { steps = search.steps.items; newest = search.newest.items }

-- the same counts, and no node that is newest
abbrev pub none_newest : Met → Met
none_newest met = record { steps = met.steps; newest = [] }

-- The search has counted the nodes at which P holds. What it newly counted has this count and is
-- among the newest, and what is newest now was so before or has the count.
pub record HasCounted (P : ℕ → Type 0) (n : ℕ) (old new : Met) : Type 0 where
  pub count : length new.steps ≡ length old.steps
  pub kept : (k m : ℕ) → HasSteps old.steps k m → HasSteps new.steps k m
  pub all : (k : ℕ) → P k → (m : ℕ) × HasSteps new.steps k m
  pub waits : (k : ℕ) → Contains old.newest k → Contains new.newest k
  pub added : (k m : ℕ) → HasSteps new.steps k m
      → HasSteps old.steps k m ⊎ (P k × (m ≡ n) × Contains new.newest k)
  pub counted : (k : ℕ) → Contains new.newest k
      → Contains old.newest k ⊎ HasSteps new.steps k n
  pub measure : uncounted new.steps + length new.newest
      ≡ uncounted old.steps + length old.newest

-- the node is one that needs one of these
abbrev pub NeedsOneOf : GraphData → List ℕ → ℕ → Type 0
NeedsOneOf graph nodes k =
    (node : ℕ) × Contains nodes node × (is_one_of node (needs graph k) ≡ true)

-- The nodes of at most so many steps are counted, the newest are those of just so many, and what
-- needs a node of fewer steps is counted with one step more at most.
pub record IsStepSearch (graph : GraphData) (to depth : ℕ) (search : Met) : Type 0 where
  pub count : length search.steps ≡ length graph.packages
  pub sound : (k n : ℕ) → HasSteps search.steps k n → IsAway graph to k n
  pub start : HasSteps search.steps to 0
  pub low : (k n : ℕ) → HasSteps search.steps k n → n ≤ depth
  pub newest : (k : ℕ) → HasSteps search.steps k depth → Contains search.newest k
  pub counted : (k : ℕ) → Contains search.newest k → HasSteps search.steps k depth
  pub closed : (a b n : ℕ) → (is_one_of b (needs graph a) ≡ true) → HasSteps search.steps b n
      → n < depth → (m : ℕ) × HasSteps search.steps a m × (m ≤ suc n)
  pub room : depth + (uncounted search.steps + length search.newest)
      ≤ length search.steps

-- ---- the way to the node

-- one node is fewer steps away than another, or as many and comes no later by its place
abbrev pub IsNoFarther : Found → Found → Type 0
IsNoFarther one other = (one.steps < other.steps)
    ⊎ ((one.steps ≡ other.steps) × (one.node ≤ other.node))

-- the node of the fewest steps among some nodes, and the first of those by its place
pub record IsNearest (steps : List (Option ℕ)) (nodes : List ℕ) (found : Found) : Type 0 where
  pub among : Contains nodes found.node
  pub counted : HasSteps steps found.node found.steps
  pub least : (other n : ℕ) → Contains nodes other → HasSteps steps other n
      → IsNoFarther found (record { steps = n; node = other })

-- that node, or none where none of them has a count
abbrev pub AreNearest : List (Option ℕ) → List ℕ → Option Found → Type 0
AreNearest steps nodes None = (node n : ℕ) → Contains nodes node → ¬ HasSteps steps node n
AreNearest steps nodes (Some found) = IsNearest steps nodes found

-- one of the two that is no farther than both, where there are two
pub record IsNearerOf (one : Option Found) (other nearer : Found) : Type 0 where
  pub either : (one ≡ Some nearer) ⊎ (other ≡ nearer)
  pub first : IfSome one (λ found. IsNoFarther nearer found)
  pub second : IsNoFarther nearer other

-- a path from a node to another that is no worse than any
pub record IsFirstPath (graph : GraphData) (to node : ℕ) (path : List ℕ) : Type 0 where
  pub leads : IsPath (needs graph) node path to
  pub best : (other : List ℕ) → IsPath (needs graph) node other to → IsNoWorse path other

-- a node and the nodes of such a path from it
pub record IsFirstChain (graph : GraphData) (to node : ℕ) (chain : List ℕ) : Type 0 where
  pub path : List ℕ
  pub is : chain ≡ node ∷ path
  pub first : IsFirstPath graph to node path
