use Rattle.std.proofs.Common.{◌≡◌, ◌<◌, ℕ, true}
use Rattle.cargo_lock_bom.specs.Root.{is_member}
use Rattle.cargo_lock_bom.proofs.root.first_member.Given as goal

-- no package so far is one of the workspace
abbrev pub invariant-loop-node : goal.invariant-loop-node
invariant-loop-node l = (k : ℕ) → k < l.node → ¬ (is_member l.graph.packages k ≡ true)
