-- What is reached, by facts that hold at the same places.
use Rattle.std.proofs.Common.{◌↔◌, ℕ, List, [], ◌∷◌}
use Rattle.lists.specs.Chains.{IsChain, IsReachedFrom}

module _ (F G : ℕ → Type 0) (a b : ℕ → ℕ → Type 0) (roots : (p : ℕ) → F p ↔ G p) (leads : (p d : ℕ) → a p d ↔ b p d) where
  chain-to : (p : ℕ) (chain : List ℕ) (q : ℕ) → IsChain a p chain q → IsChain b p chain q
  chain-to p [] q h = h
  chain-to p (r ∷ rs) q h = ((leads p r).0 h.0, chain-to r rs q h.1)

  chain-from : (p : ℕ) (chain : List ℕ) (q : ℕ) → IsChain b p chain q → IsChain a p chain q
  chain-from p [] q h = h
  chain-from p (r ∷ rs) q h = ((leads p r).1 h.0, chain-from r rs q h.1)

  pub reached-same : (p : ℕ) → IsReachedFrom F a p ↔ IsReachedFrom G b p
  reached-same p = (
    λ h. (h.0, h.1, (roots h.0).0 h.2, chain-to h.0 h.1 p h.3),
    λ h. (h.0, h.1, (roots h.0).1 h.2, chain-from h.0 h.1 p h.3),
  )
