-- What the lines of a text hold. No public contract cites these definitions.
-- What a line is read as is the rule of TOML 1.1.0, as the kit's crate `toml` defines it.
use Rattle.std.specs.Prelude.{◌≡◌, ◌<◌, ◌≤◌, ℕ, suc, true, List, [], ◌∷◌, ◌++◌, length, Some, map}
use Rattle.std.specs.List.{flat_map, list_all}
use Rattle.toml_parser.specs.Lexical.{skip_blank}
use Rattle.toml.specs.Parse.{line}
use Rattle.toml.specs.Tables.{Expression}
use Rattle.cargo_lock_lines.specs.Characters.{comma, newline, quotation_mark, space}
use Rattle.cargo_lock_lines.specs.Layout.{Ascends, join_lines}
use Rattle.cargo_lock_lines.specs.Quoting.{is_plain_byte}
use Rattle.cargo_lock_lines.specs.TableOfWords.{LinedIdentity, LinedPackage, lined_expressions}
use Rattle.cargo_lock_lines.specs.TableOfWords.{list_pairs, metadata_expressions, pair_expression}
use Rattle.cargo_lock_lines.specs.TableOfWords.{patch_expressions, text_pairs}

-- a word stands between a beginning and an end, and needs no escape; the rest follows
pub record IsBetween (text beginning word end rest : List ℕ) : Type 0 where
  pub whole : text ≡ beginning ++ (word ++ (end ++ rest))
  pub plain : list_all is_plain_byte word ≡ true

-- the text holds exactly these expressions, each in a line or more
abbrev pub HoldsExactly : List Expression → List ℕ → Type 0
HoldsExactly [] text = skip_blank text ≡ []
HoldsExactly (e ∷ es) text = (s : List ℕ) × (rest : List ℕ) × (skip_blank text ≡ s)
    × (line s ≡ Some (e, newline ∷ rest)) × (suc (length rest) < length s) × HoldsExactly es rest

-- the text holds these expressions, and then those of the rest
pub record Holds (text : List ℕ) (es : List Expression) (rest : List ℕ) : Type 0 where
  pub holds : (fs : List Expression) → HoldsExactly fs rest → HoldsExactly (es ++ fs) text
  pub within : length rest ≤ length text

-- the line of a reference that needs no escape
abbrev pub word_line : List ℕ → List ℕ
word_line w = space ∷ quotation_mark ∷ (w ++ (quotation_mark ∷ comma ∷ []))

-- the lines of these references, and then the rest
pub record AreReferencesAt (text : List ℕ) (words : List (List ℕ)) (rest : List ℕ) : Type 0 where
  pub plain : list_all (list_all is_plain_byte) words ≡ true
  pub whole : text ≡ join_lines (map word_line words) ++ rest

-- the list of these references, or nothing if there are none, and then the rest
abbrev pub HoldsList : List ℕ → List (List ℕ) → List ℕ → Type 0
HoldsList text words rest = Holds text (map pair_expression (list_pairs words)) rest

-- the lines of these packages, and then the rest
abbrev pub ArePackagesAt : List ℕ → List LinedPackage → List ℕ → Type 0
ArePackagesAt text words rest = Holds text (flat_map lined_expressions words) rest

-- the lines of these unused patches, and then the rest
abbrev pub ArePatchesAt : List ℕ → List LinedIdentity → List ℕ → Type 0
ArePatchesAt text words rest = Holds text (flat_map patch_expressions words) rest

-- the last of the keys, if there is one
abbrev pub IsLastKey : List (List ℕ × List ℕ) → List ℕ → Type 0
IsLastKey [] k = Unit {0}
IsLastKey (m ∷ []) k = m.0 ≡ k
IsLastKey (m ∷ n ∷ ms) k = IsLastKey (n ∷ ms) k

-- the lines of these pairs, and then the rest
pub record ArePairsAt (text : List ℕ) (words : List (List ℕ × List ℕ)) (rest : List ℕ)
    : Type 0 where
  pub holds : Holds text (map pair_expression (text_pairs words)) rest
  pub ascends : Ascends words

-- the metadata, or nothing if there is none, and then the rest
pub record IsMetadataAt (text : List ℕ) (words : List (List ℕ × List ℕ)) (rest : List ℕ)
    : Type 0 where
  pub holds : Holds text (metadata_expressions words) rest
  pub ascends : Ascends words
