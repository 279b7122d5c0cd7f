use Rattle.std.proofs.Common.{◌≡◌, drop, map}
use Rattle.cargo_lock_location.specs.Location.{is_among}
use Rattle.cargo_lock_location.proofs.location.is_named.Given as goal

-- the line is among the others
abbrev pub invariant-loop-line : goal.invariant-loop-line
invariant-loop-line l = is_among l.wanted (map (λ line. line.now) (drop l.line-index l.lines)) ≡ is_among l.wanted (map (λ line. line.now) l.lines)
