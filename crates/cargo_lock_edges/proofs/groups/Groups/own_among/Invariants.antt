use Rattle.std.proofs.Common.{ℕ, take}
use Rattle.std.specs.List.{Contains}
use Rattle.cargo_lock_edges.specs.Nearest.{IsOfOwnWordsAt}
use Rattle.cargo_lock_edges.proofs.groups.Groups.own_among.Given as goal

-- no package at the places so far is of the dependency's own words
abbrev pub invariant-loop-place : goal.invariant-loop-place
invariant-loop-place l = (k : ℕ) → Contains (take l.place-index l.places) k
    → ¬ IsOfOwnWordsAt l.self.packages l.dependency k
