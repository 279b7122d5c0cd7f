use Rattle.std.proofs.Common.{◌≡◌, map, take}
use Rattle.cargo_lock_location.specs.Location.{headers_from}
use Rattle.cargo_lock_location.proofs.location.headers_in.Given as goal

-- the places of the lines so far that begin packages
abbrev pub invariant-loop-place : goal.invariant-loop-place
invariant-loop-place l = l.headers.items ≡ headers_from 0 (map (λ line. line.now) (take l.place l.lines))
