-- CRC-32 (RFC 1952, 8; ITU-T V.42, 8.1.1.6.2): the bits of some bytes, each byte's lowest first,
-- are the coefficients of a polynomial, the highest first. It is divided by another one, and what
-- is left is the checksum. Coefficients are 0 or 1, and are added and taken away by `bit_xor`.
use Rattle.std.specs.Prelude.{ℕ, zero, suc, ◌+◌, ◌-◌, ◌*◌, ◌/◌, ◌%◌, ◌^◌, ◌==◌, if◌then◌else◌}
use Rattle.std.specs.Prelude.{List, bit_xor, length}
use Rattle.inflate.specs.Bits.{bit_at}

-- the divisor without its first term: x^32 + x^26 + x^23 + x^22 + x^16 + x^12 + x^11 + x^10 + x^8
-- + x^7 + x^5 + x^4 + x^2 + x + 1. As in each remainder, the lowest bit is the coefficient of x^31,
-- and the highest of 32 that of 1.
abbrev pub divisor : ℕ
divisor = 0xEDB88320

-- the remainder r, when one bit more is divided: r times x and the bit times x^32 are added, and
-- the divisor is taken away if x^32 is in the sum
abbrev pub past_bit : ℕ → ℕ → ℕ
past_bit r b = bit_xor (r / 2) (if (r + b) % 2 == 0 then 0 else divisor)

-- the remainder r, when n zeros more are divided
unfoldable pub past_zeros : ℕ → ℕ → ℕ
past_zeros r zero = r
past_zeros r (suc n) = past_bit (past_zeros r n) 0

-- the remainder of the first n bits, where 32 coefficients of 1 are left to begin with
unfoldable pub remainder : List ℕ → ℕ → ℕ
remainder bytes zero = 2 ^ 32 - 1
remainder bytes (suc n) = past_bit (remainder bytes n) (bit_at bytes n)

-- the checksum: the remainder of all bits, in which each 0 is turned to 1, and each 1 to 0
abbrev pub crc32 : List ℕ → ℕ
crc32 bytes = 2 ^ 32 - 1 - remainder bytes (8 * length bytes)
