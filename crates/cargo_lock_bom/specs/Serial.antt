-- The serial number of a bill.
-- CycloneDX 1.6 asks for a UUID of RFC 4122, which RFC 9562 replaces: version 5 is in its section
-- 5.5.
use Rattle.std.specs.Prelude.{Bool, true, false, ℕ, List, [], ◌∷◌, ◌++◌, codes, take}
use Rattle.serde_json.specs.Data.{Data, object, string, put}
use Rattle.serde_json.specs.Written.{compact_text}
use Rattle.sha1.specs.Sha1.{sha1}
use Rattle.uuid.specs.declared.Variant.TheVariants.{RFC4122}
use Rattle.uuid.specs.declared.Version.TheVariants.{Sha1}
use Rattle.uuid.specs.Parts.{with_variant, with_version}
use Rattle.uuid.specs.Text.{lower, urn_text}

-- the namespace of URLs: the bytes of `6ba7b811-9dad-11d1-80b4-00c04fd430c8`
abbrev pub url_namespace : List ℕ
url_namespace =
    0x6b ∷ 0xa7 ∷ 0xb8 ∷ 0x11 ∷ 0x9d ∷ 0xad ∷ 0x11 ∷ 0xd1 ∷ 0x80 ∷ 0xb4 ∷ 0x00 ∷ 0xc0 ∷ 0x4f ∷ 0xd4
    ∷ 0x30 ∷ 0xc8 ∷ []

-- the UUID of version 5 of a text, in the namespace of URLs, made of the SHA-1 of both
unfoldable pub name_id : List ℕ → List ℕ
name_id text = with_version (with_variant (take 16 (sha1 (url_namespace ++ text))) RFC4122) Sha1

-- the serial number of a text: `urn:uuid:67e55044-10b1-526f-9247-bb680e5fe0c8`
abbrev pub serial_text : List ℕ → List ℕ
serial_text text = urn_text lower (name_id text)

-- the document with a serial number
abbrev pub with_serial : List ℕ → Data → Data
with_serial serial (object members) = object (put (codes "serialNumber") (string serial) members)
with_serial serial other = other

-- the document unchanged, or with the serial number of its text, which is in one line without
-- spaces between its parts
abbrev pub numbered : Bool → Data → Data
numbered false d = d
numbered true d = with_serial (serial_text (compact_text d)) d
