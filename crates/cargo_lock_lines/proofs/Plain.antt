-- A text that needs no escape.
use Rattle.std.proofs.Common.{◌≡◌, ℕ, Bool, true, false, ◌&&◌, List, [], ◌∷◌, refl, arith}
use Rattle.std.proofs.lemmas.Bool.{false≢true}
use Rattle.std.proofs.lemmas.Bool.Decides.{nat_tests}
use Rattle.std.specs.List.{flat_map, list_all}
use Rattle.cargo_lock_lines.specs.Quoting.{escape, escape_byte, is_plain_byte}

plain-byte : (b : ℕ) → is_plain_byte b ≡ true → escape_byte b ≡ b ∷ []
plain-byte b h = grind (arith, nat_tests)

both : (p q : Bool) → (p && q) ≡ true → (p ≡ true) × (q ≡ true)
both true q h = (refl, h)
both false q h = absurd (false≢true h)

plain-bytes : (bs : List ℕ) → list_all is_plain_byte bs ≡ true → flat_map escape_byte bs ≡ bs
plain-bytes [] h = refl
plain-bytes (b ∷ bs) h =
    let parts = both (is_plain_byte b) (list_all is_plain_byte bs) h in
    rw (plain-byte b parts.0, plain-bytes bs parts.1) refl

pub escape-plain : (text : List ℕ) → list_all is_plain_byte text ≡ true → escape text ≡ text
unfolding escape
escape-plain text h = plain-bytes text h
