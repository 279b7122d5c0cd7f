use Rattle.std.proofs.Common.{◌≡◌, ◌<◌, ◌++◌, ℕ, List, drop}
use Rattle.cargo_lock_flaws.proofs.sources.has_part.Given as goal

-- the part is at no place so far
abbrev pub invariant-loop-start : goal.invariant-loop-start
invariant-loop-start l = (k : ℕ) (rest : List ℕ) → k < l.start → ¬ (drop k l.text ≡ l.part ++ rest)
