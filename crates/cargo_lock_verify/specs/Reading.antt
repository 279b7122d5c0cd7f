-- What is hashed of a reader.
use Rattle.std.specs.Prelude.{◌≡◌, ◌++◌, ℕ, Bool, IsTrue, List, IfSome, Option}
use Rattle.std.specs.Io.KnownBytes.{Consumes, IsAtEnd}
use Rattle.sha2.specs.Hashers.{Holds256}
use Rattle.sha2.specs.Sha256.{sha256}
use Rattle.sha2.specs.declared.Sha256.{Sha256}
use Rattle.cargo_lock_parts.specs.Checksum.{digest_of}
use Rattle.cargo_lock_parts.specs.declared.package.checksum.Checksum.{Checksum}

-- The checksum is the SHA-256 of the bytes that the reader had left, where it says which they were.
abbrev pub IsDigestOfRest : Option (List ℕ) → Checksum → Type 0
IsDigestOfRest rest checksum = IfSome rest (λ bytes. digest_of checksum ≡ sha256 bytes)

-- some bytes of the reader were added to what the hasher holds; all that were left, if it is at the
-- end
abbrev pub AddsBytes : Sha256 → Option (List ℕ) → Sha256 → Option (List ℕ) → Bool → Type 0
AddsBytes before old after new is_end = (m : List ℕ) → Holds256 before m
    → (bytes : List ℕ) × Holds256 after (m ++ bytes) × Consumes old new bytes
    × (IsTrue is_end → IsAtEnd new)
