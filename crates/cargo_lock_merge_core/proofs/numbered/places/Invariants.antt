use Rattle.std.proofs.Common.{◌+◌, take}
use Rattle.std.specs.List.{AllZip}
use Rattle.cargo_lock_merge_core.specs.Lists.{IsNumberAt}
use Rattle.cargo_lock_merge_core.proofs.numbered.places.Given as goal

-- the numbers so far
abbrev pub invariant-loop-at : goal.invariant-loop-at
invariant-loop-at l = AllZip (λ k n. IsNumberAt l.numbers (l.offset + k) n) (take l.at-index l.packages) l.places.items
