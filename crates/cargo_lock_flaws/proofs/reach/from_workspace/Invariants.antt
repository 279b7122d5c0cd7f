use Rattle.std.proofs.Common.{length}
use Rattle.lists.specs.Reach.{HasReached, fresh}
use Rattle.lists.proofs.ReachedPlaces.{HoldsBelow}
use Rattle.cargo_lock_flaws.specs.Reach.{IsWorkspacePackage}
use Rattle.cargo_lock_flaws.proofs.reach.from_workspace.Given as goal

-- the packages of the workspace so far are reached
abbrev pub invariant-loop-place : goal.invariant-loop-place
invariant-loop-place l = HasReached (HoldsBelow (IsWorkspacePackage l.packages) l.place) (fresh (length l.packages)) l.search
