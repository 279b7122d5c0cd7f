use Rattle.std.proofs.Common.{◌≡◌, drop}
use Rattle.cargo_lock_location.specs.Location.{without_blanks}
use Rattle.cargo_lock_location.proofs.location.without_blanks.Given as goal

-- all so far is white space
abbrev pub invariant-loop-start : goal.invariant-loop-start
invariant-loop-start l = without_blanks (drop l.start l.line) ≡ without_blanks l.line
