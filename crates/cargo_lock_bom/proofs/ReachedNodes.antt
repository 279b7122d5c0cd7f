-- The nodes that a search has reached are those to which edges lead.
use Rattle.std.proofs.Common.{◌≡◌, ◌↔◌, ℕ, List, [], ◌∷◌, refl, subst}
use Rattle.cargo_lock_graph.specs.Paths.{IsPath, IsReachable}
use Rattle.lists.specs.Chains.{IsChain, IsReachedFrom, LeadsToEach}
use Rattle.cargo_lock_bom.proofs.Ways.{far-contains, is_one_of-contains}

path-of : (far : ℕ → List ℕ) (a : ℕ) (chain : List ℕ) (b : ℕ) → IsChain (LeadsToEach far) a chain b → IsPath far a chain b
path-of far a [] b same = same
path-of far a (n ∷ ns) b (leads, more) = (is_one_of-contains n (far a) leads, path-of far n ns b more)

chain-of : (far : ℕ → List ℕ) (a : ℕ) (path : List ℕ) (b : ℕ) → IsPath far a path b → IsChain (LeadsToEach far) a path b
chain-of far a [] b same = same
chain-of far a (n ∷ ns) b (leads, more) = (far-contains n (far a) leads, chain-of far n ns b more)

-- a path leads from the start to what a chain leads to
pub reachable-is : (far : ℕ → List ℕ) (start k : ℕ) → IsReachedFrom (λ n. n ≡ start) (LeadsToEach far) k ↔ IsReachable far start k
reachable-is far start k = (
  λ r. (r.1, subst (λ n. IsPath far n r.1 k) r.2 (path-of far r.0 r.1 k r.3)),
  λ r. (start, r.0, refl, chain-of far start r.0 k r.1),
)
