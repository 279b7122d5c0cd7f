use Rattle.std.proofs.Common.{Global, ℕ, Vec, map, take}
use Rattle.cargo_lock_query.specs.Chains.{AreChainsOfEach}
use Rattle.cargo_lock_query.proofs.chain.chains_by_steps.Given as goal

-- the chains from the roots so far
abbrev pub invariant-loop-root : goal.invariant-loop-root
invariant-loop-root l = AreChainsOfEach l.graph l.to (take l.root-index l.roots) (map (λ (v : Vec ℕ Global). v.items) l.chains.items)
