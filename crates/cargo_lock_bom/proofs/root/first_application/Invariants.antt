use Rattle.std.proofs.Common.{◌≡◌, ◌<◌, ℕ, true}
use Rattle.cargo_lock_bom.specs.Root.{is_application}
use Rattle.cargo_lock_bom.proofs.root.first_application.Given as goal

-- no package so far is one of the workspace that no other needs
abbrev pub invariant-loop-node : goal.invariant-loop-node
invariant-loop-node l = (k : ℕ) → k < l.node → ¬ (is_application l.graph k ≡ true)
