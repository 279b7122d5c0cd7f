use Rattle.std.proofs.Common.{◌≡◌, false, take}
use Rattle.std.specs.List.{All}
use Rattle.cargo_lock_audit.specs.Database.{is_misplaced}
use Rattle.cargo_lock_audit.proofs.database.first_misplaced.Given as goal

-- each file so far is in the folder of its package
abbrev pub invariant-loop-place : goal.invariant-loop-place
invariant-loop-place l = All (λ f. is_misplaced f ≡ false) (take l.place l.files)
