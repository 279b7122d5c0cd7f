use Rattle.std.proofs.Common.{ℕ, List, ◌*◌, ◌/◌, ◌%◌, ◌≡◌, ◌∙◌, ap, ap₂, sym, arith, slice_index, bit_xor}
use Rattle.inflate.specs.Checksum.{past_zeros, remainder}
use Rattle.inflate.proofs.Remainders.{byte_more, no_bit}
use Rattle.inflate.proofs.checksum.crc32.Goals as goal

pub loop-byte-init : goal.loop-byte-init
loop-byte-init c = no_bit c.args.bytes.now

pub loop-byte-preserved : goal.loop-byte-preserved
loop-byte-preserved c =
    let bytes : List ℕ = c.args.bytes.now in
    let i : ℕ = c.loop-byte.byte-index in
    let left : ℕ = c.loop-byte.left in
    let table : List ℕ = c.table-table.result in
    let sum : ℕ = bit_xor left c.from.result in
    let is : sum ≡ bit_xor (remainder bytes (8 * i)) (slice_index bytes i) = ap₂ bit_xor c.loop-byte.invariant c.from.ensures in
    let found : slice_index table (sum % 256) ≡ past_zeros (sum % 256) 8 = c.table-table.ensures (sum % 256) (omega arith) in
    let low : past_zeros (sum % 256) 8 ≡ past_zeros (bit_xor (remainder bytes (8 * i)) (slice_index bytes i) % 256) 8 = ap (λ (x : ℕ). past_zeros (x % 256) 8) is in
    let high : left / 256 ≡ remainder bytes (8 * i) / 256 = ap (λ (x : ℕ). x / 256) c.loop-byte.invariant in
    ap₂ bit_xor (found ∙ low) high ∙ sym (byte_more bytes i (omega (arith, c.type_inv.bytes i)))
