use Rattle.std.proofs.Common.{◌≡◌, ℕ, ◌<◌, length, slice_index}
use Rattle.inflate.specs.Checksum.{past_zeros}
use Rattle.inflate.proofs.checksum.table.Given as goal

abbrev pub invariant-loop-k : goal.invariant-loop-k
invariant-loop-k l = record {
  whole : length l.table ≡ 256;
  found : (j : ℕ) → j < l.k → slice_index l.table j ≡ past_zeros j 8;
}
