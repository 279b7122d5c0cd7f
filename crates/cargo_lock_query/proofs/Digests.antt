-- Texts of digests.
use Rattle.std.proofs.Common.{◌≡◌, ◌∙◌, ◌*◌, ℕ, Bool, true, false, List, ap, bytes_eq, length, nat_eq, refl, sym}
use Rattle.std.proofs.lemmas.Slice.Eq.{bytes_eq-Decides}
use Rattle.std.proofs.lemmas.Bool.{eqb-true}
use Rattle.hex.proofs.HexLemmas.{length-encode_with}
use Rattle.cargo_lock_parts.specs.Checksum.{digest_text}

tested : (b : Bool) (text other : List ℕ) → bytes_eq other text ≡ b → length other ≡ 64 → ¬ (length text ≡ 64) → b ≡ false
tested false text other is long apart = refl
tested true text other is long apart =
    absurd (apart (sym (ap length ((bytes_eq-Decides other text).0 is)) ∙ long))

unequal : (b : Bool) (m n : ℕ) → nat_eq m n ≡ b → ¬ (m ≡ n) → b ≡ false
unequal false m n is apart = refl
unequal true m n is apart = absurd (apart (eqb-true m n is))

-- a text of another length is that of no digest
pub other_length : (digest text : List ℕ) → length digest ≡ 32 → ¬ (length text ≡ 64) → nat_eq (length text) 64 ≡ bytes_eq (digest_text digest) text
other_length digest text full apart =
    unequal (nat_eq (length text) 64) (length text) 64 refl apart
    ∙ sym (tested (bytes_eq (digest_text digest) text) text (digest_text digest) refl
    (length-encode_with _ digest ∙ ap (λ n. 2 * n) full) apart)
