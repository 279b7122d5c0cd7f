-- Remainders: what eight bits more make of one is found by the lowest eight bits of its sum with them.
use Rattle.std.proofs.Common.{ℕ, zero, suc, ◌+◌, ◌-◌, ◌*◌, ◌/◌, ◌%◌, ◌^◌, ◌<◌, ◌≤◌, ◌≡◌, ◌==◌, if◌then◌else◌, List, refl, sym, ap, ap₂, ◌∙◌, arith, add-one, slice_index, bit_xor}
use Rattle.std.proofs.lemmas.Nat.{xor_shr, xor_comm, shr-shr}
use Rattle.std.proofs.lemmas.Grind.{pow_more}
use Rattle.std.specs.Int.Bits.{xor_add_and, xor_assoc, xor_zero_r, xor_shifted}
use Rattle.inflate.specs.Bits.{bit_at}
use Rattle.inflate.specs.Checksum.{divisor, past_bit, past_zeros, remainder}

pub zeros_more : (r n : ℕ) → past_zeros r (n + 1) ≡ past_bit (past_zeros r n) 0
unfolding past_zeros
zeros_more r n = rw add-one refl

swap : (a b d : ℕ) → bit_xor (bit_xor a b) d ≡ bit_xor (bit_xor a d) b
swap a b d = xor_assoc a b d ∙ ap (bit_xor a) (xor_comm b d) ∙ sym (xor_assoc a d b)

-- a bit of c may be added before it is its turn
bit_before : (s c b : ℕ) → b ≡ c % 2 → past_bit (bit_xor s c) 0 ≡ bit_xor (past_bit s b) (c / 2)
bit_before s c b e =
    let half : bit_xor s c / 2 ≡ bit_xor (s / 2) (c / 2) = xor_shr s c 1 in
    let odd : (bit_xor s c + 0) % 2 ≡ (s + b) % 2 = omega (arith, xor_add_and s c, e) in
    ap₂ (λ (h o : ℕ). bit_xor h (if o == 0 then 0 else divisor)) half odd ∙ swap (s / 2) (c / 2) (if (s + b) % 2 == 0 then 0 else divisor)

bit_of_byte : (bytes : List ℕ) (i k : ℕ) → k < 8 → bit_at bytes (8 * i + k) ≡ slice_index bytes i / 2 ^ k % 2
bit_of_byte bytes i k h =
    let a : (8 * i + k) / 8 ≡ i = omega arith in
    let b : (8 * i + k) % 8 ≡ k = omega arith in
    ap₂ (λ (x y : ℕ). slice_index bytes x / 2 ^ y % 2) a b

-- the bits of a byte may all be added before
along : (bytes : List ℕ) (i k : ℕ) → k ≤ 8
    → bit_xor (remainder bytes (8 * i + k)) (slice_index bytes i / 2 ^ k) ≡ past_zeros (bit_xor (remainder bytes (8 * i)) (slice_index bytes i)) k
unfolding remainder past_zeros
along bytes i zero h =
    let a : 8 * i + 0 ≡ 8 * i = omega arith in
    let b : slice_index bytes i / 2 ^ 0 ≡ slice_index bytes i = omega arith in
    ap₂ (λ (x y : ℕ). bit_xor (remainder bytes x) y) a b
along bytes i (suc k) h =
    let s = remainder bytes (8 * i + k) in
    let c = slice_index bytes i / 2 ^ k in
    let more : 8 * i + suc k ≡ suc (8 * i + k) = omega arith in
    let half : slice_index bytes i / 2 ^ suc k ≡ c / 2 = ap (λ (x : ℕ). slice_index bytes i / 2 ^ x) (sym (add-one k)) ∙ sym (shr-shr (slice_index bytes i) k 1) in
    let b = bit_before s c (bit_at bytes (8 * i + k)) (bit_of_byte bytes i k (omega arith)) in
    ap₂ (λ (x y : ℕ). bit_xor (remainder bytes x) y) more half ∙ sym b ∙ ap (λ (x : ℕ). past_bit x 0) (along bytes i k (omega arith))

-- what is above eight bits moves down
through : (x k : ℕ) → k ≤ 8 → past_zeros x k ≡ bit_xor (past_zeros (x % 256) k) (x / 256 * 2 ^ (8 - k))
unfolding past_zeros
through x zero h =
    let whole : x ≡ x / 256 * 2 ^ 8 + x % 256 = omega arith in
    whole ∙ sym (xor_shifted (x / 256) 8 (x % 256) (omega arith)) ∙ xor_comm (x / 256 * 2 ^ 8) (x % 256)
through x (suc k) h =
    let s = past_zeros (x % 256) k in
    let c = x / 256 * 2 ^ (8 - k) in
    let place : 8 - k ≡ 8 - suc k + 1 = omega arith in
    let double : 2 ^ (8 - k) ≡ 2 ^ (8 - suc k) * 2 = ap (λ (n : ℕ). 2 ^ n) place ∙ pow_more 2 (8 - suc k) in
    let twice : c ≡ x / 256 * 2 ^ (8 - suc k) * 2 = ap (λ (n : ℕ). x / 256 * n) double ∙ omega arith in
    let even : 0 ≡ c % 2 = omega (arith, twice) in
    let half : c / 2 ≡ x / 256 * 2 ^ (8 - suc k) = omega (arith, twice) in
    ap (λ (y : ℕ). past_bit y 0) (through x k (omega arith)) ∙ bit_before s c 0 even ∙ ap (bit_xor (past_bit s 0)) half

-- a byte more, by the table
pub byte_more : (bytes : List ℕ) (i : ℕ) → slice_index bytes i < 256
    → remainder bytes (8 * (i + 1)) ≡ bit_xor (past_zeros (bit_xor (remainder bytes (8 * i)) (slice_index bytes i) % 256) 8) (remainder bytes (8 * i) / 256)
byte_more bytes i h =
    let r = remainder bytes (8 * i) in
    let b = slice_index bytes i in
    let x = bit_xor r b in
    let low : b / 256 ≡ 0 = omega arith in
    let high : x / 256 ≡ r / 256 = xor_shr r b 8 ∙ ap (bit_xor (r / 256)) low ∙ xor_zero_r (r / 256) in
    let after : bit_xor (remainder bytes (8 * i + 8)) (b / 256) ≡ past_zeros x 8 = along bytes i 8 (omega arith) in
    let whole : past_zeros x 8 ≡ bit_xor (past_zeros (x % 256) 8) (x / 256 * 1) = through x 8 (omega arith) in
    let place : 8 * (i + 1) ≡ 8 * i + 8 = omega arith in
    let one : x / 256 * 1 ≡ r / 256 = omega (arith, high) in
    ap (remainder bytes) place ∙ sym (ap (bit_xor (remainder bytes (8 * i + 8))) low ∙ xor_zero_r (remainder bytes (8 * i + 8))) ∙ after ∙ whole ∙ ap (bit_xor (past_zeros (x % 256) 8)) one

-- one zero more, as it is divided: with the divisor taken, and without
pub zero_taken : (r s n : ℕ) → s ≡ past_zeros r n → s % 2 ≡ 1 → bit_xor (s / 2) divisor ≡ past_zeros r (n + 1)
zero_taken r s n h o =
    let e : (s + 0) % 2 ≡ 1 = omega (arith, o) in
    sym (zeros_more r n ∙ ap (λ (x : ℕ). past_bit x 0) (sym h) ∙ ap (λ (x : ℕ). bit_xor (s / 2) (if x == 0 then 0 else divisor)) e)

pub zero_left : (r s n : ℕ) → s ≡ past_zeros r n → s % 2 ≡ 0 → s / 2 ≡ past_zeros r (n + 1)
zero_left r s n h o =
    let e : (s + 0) % 2 ≡ 0 = omega (arith, o) in
    sym (zeros_more r n ∙ ap (λ (x : ℕ). past_bit x 0) (sym h) ∙ ap (λ (x : ℕ). bit_xor (s / 2) (if x == 0 then 0 else divisor)) e ∙ xor_zero_r (s / 2))

-- no bit is divided yet
pub no_bit : (bytes : List ℕ) → 4294967295 ≡ remainder bytes 0
unfolding remainder
no_bit bytes = refl
