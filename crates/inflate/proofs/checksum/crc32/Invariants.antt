use Rattle.std.proofs.Common.{◌≡◌, ◌*◌}
use Rattle.inflate.specs.Checksum.{remainder}
use Rattle.inflate.proofs.checksum.crc32.Given as goal

abbrev pub invariant-loop-byte : goal.invariant-loop-byte
invariant-loop-byte l = l.left ≡ remainder l.bytes (8 * l.byte-index)
