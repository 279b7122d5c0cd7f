-- The nodes that a search has reached are those to which edges lead.
use Rattle.std.proofs.Common.{◌↔◌, ℕ, List, [], ◌∷◌}
use Rattle.std.specs.List.{Contains}
use Rattle.cargo_lock_graph.specs.Paths.{IsPath}
use Rattle.cargo_lock_diagram.specs.Reach as nodes
use Rattle.lists.specs.Chains.{IsChain, IsReachedFrom, LeadsToEach}
use Rattle.cargo_lock_query.proofs.Members.{in-one-of, one-of-in}

path-of : (far : ℕ → List ℕ) (a : ℕ) (chain : List ℕ) (b : ℕ) → IsChain (LeadsToEach far) a chain b → IsPath far a chain b
path-of far a [] b same = same
path-of far a (n ∷ ns) b (leads, more) = (in-one-of n (far a) leads, path-of far n ns b more)

chain-of : (far : ℕ → List ℕ) (a : ℕ) (path : List ℕ) (b : ℕ) → IsPath far a path b → IsChain (LeadsToEach far) a path b
chain-of far a [] b same = same
chain-of far a (n ∷ ns) b (leads, more) = (one-of-in n (far a) leads, chain-of far n ns b more)

-- edges lead to what a chain leads to
pub reached-is : (far : ℕ → List ℕ) (starts : List ℕ) (k : ℕ) → IsReachedFrom (Contains starts) (LeadsToEach far) k ↔ nodes.IsReachableFromSome far starts k
reached-is far starts k = (
  λ r. (r.0, r.2, (r.1, path-of far r.0 r.1 k r.3)),
  λ r. (r.0, r.2.0, r.1, chain-of far r.0 r.2.0 k r.2.1),
)
