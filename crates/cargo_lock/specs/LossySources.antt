-- Git sources that lose their tag, branch or revision: it does not read back as it is written. From
-- V1 to V3 Cargo writes its value unchanged, so `+`, `%`, `&` and `#` in it read as something else.
-- From V4 on it escapes the value.
-- The rule is measured on the lockfiles in `tests/cargo`, which Cargo 1.95.0 wrote; the escapes are
-- those of the pull request 12852 of rust-lang/cargo.
use Rattle.std.specs.Prelude.{◌≡◌, ◌↔◌, ◌++◌, ◌==◌, ℕ, Bool, not, true, false, if◌then◌else◌, List, [], ◌∷◌, bytes_eq, codes, length, take, Option, None, Some, unwrap_or, option_map}
use Rattle.std.specs.List.{Contains, after_first, list_any}
use Rattle.std.specs.List.Sorted.{IsStrictlySortedBy}
use Rattle.std.specs.Option.{option_and_then}
use Rattle.std.specs.Path.{rfind_below}
use Rattle.toml.specs.Data.{Data, Items, Members, as_array, as_str, get, item, no_items, table}
use Rattle.toml.specs.Parse.{parse_document}
use Rattle.cargo_lock_parts.specs.Ascii.{left_bracket, right_bracket}
use Rattle.cargo_lock_parts.specs.Source.{GitReference, git_reference}
use Rattle.cargo_lock_parts.specs.SourceKey.{text_cmp}
use Rattle.cargo_lock_parts.specs.SourceReading.{source_of}
use Rattle.cargo_lock_parts.specs.SourceText.{pair_text}

-- `b'#'`
abbrev pub number_sign : ℕ
number_sign = 35

-- `b'?'`
abbrev pub question_mark : ℕ
question_mark = 63

-- ---- one source

-- the byte is a question mark
abbrev pub is_question_mark : ℕ → Bool
is_question_mark b = b == question_mark

-- the text after the first question mark differs from this reference, as V1 to V3 write it
abbrev pub differs : List ℕ → Option GitReference → Bool
differs text None = false
differs text (Some reference) =
    not (bytes_eq (after_first is_question_mark text) (pair_text false reference))

-- The text of a source is that of a repository, and the text after the first question mark is not
-- exactly the tag, branch or revision that is read from it.
abbrev pub is_lossy : List ℕ → Bool
is_lossy text = differs text (option_and_then (λ s. git_reference s.kind) (source_of text))

-- ---- the sources that are written in a table

-- the source, if it has a question mark
abbrev pub asked : List ℕ → List (List ℕ)
asked text = if list_any is_question_mark text then text ∷ [] else []

-- the sources with a question mark in a text that may be absent, by a function that gives the
-- source
abbrev pub asked_in : (List ℕ → List ℕ) → Option (List ℕ) → List (List ℕ)
asked_in source None = []
asked_in source (Some text) = asked (source text)

-- the text before the last of these bytes, or else all of it
abbrev pub before_last : ℕ → List ℕ → List ℕ
before_last mark text = take (unwrap_or (rfind_below mark text (length text)) (length text)) text

-- the source of a reference, which is in round brackets
abbrev pub bracketed : List ℕ → List ℕ
bracketed text = before_last right_bracket (after_first (λ b. b == left_bracket) text)

-- the sources of the value at a key, by a function that gives those of a value
abbrev pub sources_at : (Data → List (List ℕ)) → List ℕ → Data → List (List ℕ)
sources_at sources key d = unwrap_or (option_map sources (get key d)) []

-- the sources of each item, one after another
abbrev pub sources_of_items : (Data → List (List ℕ)) → Items → List (List ℕ)
sources_of_items sources no_items = []
sources_of_items sources (item d ds) = sources d ++ sources_of_items sources ds

-- the sources of the items of a list
abbrev pub sources_of_list : (Data → List (List ℕ)) → Data → List (List ℕ)
sources_of_list sources d = unwrap_or (option_map (sources_of_items sources) (as_array d)) []

-- the source in the text of a package or a patch, without its commit, which follows a `#`
abbrev pub own_source : Data → List (List ℕ)
own_source d = asked_in (before_last number_sign) (as_str d)

-- the source in the text of a reference
abbrev pub reference_source : Data → List (List ℕ)
reference_source d = asked_in bracketed (as_str d)

-- the sources of a package: its own, those of its references, and that of its replacement
abbrev pub package_sources : Data → List (List ℕ)
package_sources d = sources_at own_source (codes "source") d
    ++ (sources_at (sources_of_list reference_source) (codes "dependencies") d
    ++ sources_at reference_source (codes "replace") d)

-- the source of an unused patch
abbrev pub patch_source : Data → List (List ℕ)
patch_source = sources_at own_source (codes "source")

-- the sources of the packages of a table
abbrev pub listed_sources : Members → List (List ℕ)
listed_sources ms = sources_at (sources_of_list package_sources) (codes "package") (table ms)

-- the sources of its root
abbrev pub root_sources : Members → List (List ℕ)
root_sources ms = sources_at package_sources (codes "root") (table ms)

-- the sources of the unused patches that a value is
abbrev pub patch_sources : Data → List (List ℕ)
patch_sources = sources_at (sources_of_list patch_source) (codes "unused")

-- the sources of the unused patches of a table
abbrev pub unused_sources : Members → List (List ℕ)
unused_sources ms = sources_at patch_sources (codes "patch") (table ms)

-- the sources that are written in the table of a lockfile
abbrev pub written_sources : Members → List (List ℕ)
written_sources ms = listed_sources ms ++ (root_sources ms ++ unused_sources ms)

-- ---- the lossy sources of a text

-- the text is that of a TOML table in which the source is written, and the source is lossy
pub record IsLossyIn (text source : List ℕ) : Type 0 where
  pub members : Members
  pub parsed : parse_document text ≡ Some members
  pub written : Contains (written_sources members) source
  pub lossy : is_lossy source ≡ true

-- these texts in ascending order, each listed once
pub record AreEachOnce (texts once : List (List ℕ)) : Type 0 where
  pub ascending : IsStrictlySortedBy text_cmp once
  pub same : (text : List ℕ) → Contains once text ↔ Contains texts text

-- the lossy sources of a text, each listed once, in ascending order
pub record AreLossySources (text : List ℕ) (sources : List (List ℕ)) : Type 0 where
  pub ascending : IsStrictlySortedBy text_cmp sources
  pub told : (source : List ℕ) → Contains sources source ↔ IsLossyIn text source
