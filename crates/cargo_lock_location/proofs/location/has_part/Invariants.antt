use Rattle.std.proofs.Common.{◌≡◌, drop}
use Rattle.cargo_lock_location.specs.Location.{is_part}
use Rattle.cargo_lock_location.proofs.location.has_part.Given as goal

-- the part is at no place so far
abbrev pub invariant-loop-start : goal.invariant-loop-start
invariant-loop-start l = is_part l.part (drop l.start l.text) ≡ is_part l.part l.text
