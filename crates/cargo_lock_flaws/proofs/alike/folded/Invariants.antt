use Rattle.std.proofs.Common.{◌≡◌, map, take}
use Rattle.cargo_lock_flaws.specs.Alike.{folded_byte}
use Rattle.cargo_lock_flaws.proofs.alike.folded.Given as goal

-- the bytes so far
abbrev pub invariant-loop-byte : goal.invariant-loop-byte
invariant-loop-byte l = l.key.items ≡ map folded_byte (take l.byte-index l.bytes)
