use Rattle.std.proofs.Common.{◌≡◌, map, option_map, take}
use Rattle.cargo_lock_location.specs.Location.{numbers_from}
use Rattle.cargo_lock_location.proofs.location.numbers.Given as goal

-- the numbers of the packages so far
abbrev pub invariant-loop-place : goal.invariant-loop-place
invariant-loop-place l = l.found.items
    ≡ numbers_from 0 l.shown (map (λ line. line.now) l.lines) (map (option_map (λ t. t.now)) (take l.place l.names))
