-- What the metadata of a table has at each key, defined by the places of the table's pairs and
-- without a fold over them.
use Rattle.std.specs.Prelude.{◌≡◌, ◌≢◌, ◌↔◌, ◌<◌, ℕ, List, [], ◌∷◌, Option, Some, None, slice_get}
use Rattle.std.specs.Prelude.{codes}
use Rattle.std.specs.FinMap.{get}
use Rattle.toml.specs.Data.{Data, string, table, Members, no_members, member, get_member}
use Rattle.cargo_lock_encoding.specs.Means.{Means}
use Rattle.cargo_lock_encoding.specs.Lockfiles.{LockfileData}
use Rattle.cargo_lock_references.specs.Records.{Texts}
use Rattle.cargo_lock_encoding.specs.TableReading.{metadata_in}

-- the pairs of a table, each a key and its value, in the table's order
abbrev pub pairs_of : Members → List (List ℕ × Data)
pairs_of no_members = []
pairs_of (member key value ms) = (key, value) ∷ pairs_of ms

-- each value is a text
abbrev pub HasTextsAlone : List (List ℕ × Data) → Type 0
HasTextsAlone pairs = (j : ℕ) (key : List ℕ) (value : Data) → slice_get pairs j ≡ Some (key, value)
    → (text : List ℕ) × (value ≡ string text)

-- the key with this text is at some place, and the key is at no later place
pub record IsLastText (pairs : List (List ℕ × Data)) (key text : List ℕ) : Type 0 where
  pub place : ℕ
  pub stands : slice_get pairs place ≡ Some (key, string text)
  pub last : (j : ℕ) (value : Data) → place < j → slice_get pairs j ≢ Some (key, value)

-- at each key the map has exactly the text of the last pair with the key, and nothing if there is
-- no such pair
abbrev pub TextsAtKeys : List (List ℕ × Data) → Texts → Type 0
TextsAtKeys pairs m = (key text : List ℕ) → (get m key ≡ Some text) ↔ IsLastText pairs key text

-- the value is a table with only texts, and the map has its texts
abbrev pub IsTableOfTexts : Data → Texts → Type 0
IsTableOfTexts (table ms) m = HasTextsAlone (pairs_of ms) × TextsAtKeys (pairs_of ms) m
IsTableOfTexts _ m = ⊥

-- the metadata of the value under the key, or nothing at any key if there is no value
abbrev pub IsMetadata : Option Data → Texts → Type 0
IsMetadata None m = (key : List ℕ) → get m key ≡ None
IsMetadata (Some value) m = IsTableOfTexts value m

-- a value reads as a map exactly if the map is its metadata, key by key
abbrev pub ReadsKeyByKey : Type 0
ReadsKeyByKey = (value : Option Data) (m : Texts) → (metadata_in value ≡ Some m)
    ↔ IsMetadata value m

-- the same holds for the metadata of a lockfile that a table means
abbrev pub MeansKeyByKey : Type 0
MeansKeyByKey = (t : Members) (l : LockfileData) → Means t l
    → IsMetadata (get_member (codes "metadata") t) l.metadata
