-- References: how a lockfile names the package that another one depends on. Cargo writes a
-- reference as one to three parts, a name, a version and a source in round brackets, and leaves out
-- the parts that are redundant among the lockfile's packages.
-- The rule is that of `EncodableDependency` in `src/lockfile/encoding.rs` of the Rust crate
-- `cargo-lock` 11.0.1; Cargo's own is in its `src/cargo/core/resolver/encode.rs`.
use Rattle.std.specs.Prelude.{◌≡◌, ℕ, ◌-◌, ◌&&◌, ◌==◌, nat_le, List, [], ◌∷◌, ◌++◌, codes, length}
use Rattle.std.specs.Prelude.{slice_index, slice_range, Option, Some, None, Result, Ok, Err}
use Rattle.std.specs.Prelude.{if◌then◌else◌, false}
use Rattle.std.specs.Result.{result_ok}
use Rattle.semver.specs.Identifiers.{parts_text}
use Rattle.semver.specs.Parse.{Parts, version_parts}
use Rattle.semver.specs.declared.error.Error.{Error as VersionError}
use Rattle.cargo_lock_parts.specs.declared.error.Error.{Error}
use Rattle.cargo_lock_parts.specs.declared.error.Error.TheVariants.{Version}
use Rattle.cargo_lock_parts.specs.Ascii.{left_bracket, right_bracket}
use Rattle.cargo_lock_parts.specs.Error.{Refuses, RefusesUrls}
use Rattle.cargo_lock_parts.specs.Source.{Source, MarkedSource}
use Rattle.cargo_lock_parts.specs.SourceReading.{source_of}
use Rattle.cargo_lock_parts.specs.SourceText.{marked_text}
use Rattle.cargo_lock_references.specs.Words.{words}

-- a reference: a name, and a version and a source if they are written
pub record Reference : Type 0 where
  pub name : List ℕ
  pub version : Option Parts
  pub source : Option MarkedSource

-- why a text is not a reference
pub data Refusal : Type 0 where
  NoReference : Refusal
  NoVersion : VersionError → Refusal

-- ---- reading

-- the version that a text is
unfoldable pub version_of : List ℕ → Option Parts
version_of text = result_ok (version_parts text)

-- a source that was read is marked plain
abbrev pub mark_plain : Source → MarkedSource
mark_plain s = record { source = s; escaped = false }

-- the reference of a name alone
abbrev pub one_word : List ℕ → Reference
one_word name = record { name = name; version = None; source = None }

-- the reference of a name and a version
abbrev pub two_words : List ℕ → Parts → Reference
two_words name version = record { name = name; version = Some version; source = None }

-- the reference of a name, a version and a source
abbrev pub three_words : List ℕ → Parts → Source → Reference
three_words name version source =
    record { name = name; version = Some version; source = Some (mark_plain source) }

-- the source in round brackets
unfoldable pub bracketed_source : List ℕ → Option Source
bracketed_source word =
    if nat_le 2 (length word) && (slice_index word 0 == left_bracket) &&
    (slice_index word (length word - 1) == right_bracket)
    then source_of (slice_range word 1 (length word - 1)) else None

-- what follows a version, if the part is one
abbrev pub after_version : Result Parts VersionError → (Parts → Result Reference Refusal)
    → Result Reference Refusal
after_version (Ok version) next = next version
after_version (Err fault) next = Err (NoVersion fault)

-- what follows a source, if the part is one
abbrev pub after_source : Option Source → (Source → Result Reference Refusal)
    → Result Reference Refusal
after_source (Some source) next = next source
after_source None next = Err NoReference

-- the reference that the parts are, or the first refusal from the left
abbrev pub reference_of_words : List (List ℕ) → Result Reference Refusal
reference_of_words [] = Err NoReference
reference_of_words (name ∷ []) = Ok (one_word name)
reference_of_words (name ∷ version ∷ []) =
    after_version (version_parts version) (λ v. Ok (two_words name v))
reference_of_words (name ∷ version ∷ source ∷ []) =
    after_version (version_parts version)
    (λ v. after_source (bracketed_source source) (λ s. Ok (three_words name v s)))
reference_of_words (name ∷ version ∷ source ∷ more ∷ others) =
    after_version (version_parts version)
    (λ v. after_source (bracketed_source source) (λ s. Err NoReference))

-- the reference that a text is, or why it is none
unfoldable pub reference_or_refusal : List ℕ → Result Reference Refusal
reference_or_refusal text = reference_of_words (words text)

-- the reference that a text is
abbrev pub reference_of : List ℕ → Option Reference
reference_of text = result_ok (reference_or_refusal text)

-- the error of a refusal: `Version` if the version is refused, otherwise one that `refuses` allows
abbrev pub IsReferenceFault : {X : Type 0} → (Error → Type 0 → Type 0) → Error → Result X Refusal
    → Type 0
IsReferenceFault refuses (Version fault) expected = expected ≡ Err (NoVersion fault)
IsReferenceFault refuses other expected = refuses other (expected ≡ Err NoReference)

-- what a reader of references with these refusals returns
abbrev pub ReadsReferenceOr : {X : Type 0} → (Error → Type 0 → Type 0) → Result X Error
    → Result X Refusal → Type 0
ReadsReferenceOr refuses (Ok f) expected = expected ≡ Ok f
ReadsReferenceOr refuses (Err e) expected = IsReferenceFault refuses e expected

-- what the reader of a reference returns; a URL may also have 4 GB or more if L holds
abbrev pub ReadsReference : {X : Type 0} → Type 0 → Result X Error → Result X Refusal → Type 0
ReadsReference L = ReadsReferenceOr (RefusesUrls L)

-- what the reader of a reference returns if no URL can have 4 GB or more
abbrev pub ReadsReferenceExactly : {X : Type 0} → Result X Error → Result X Refusal → Type 0
ReadsReferenceExactly = ReadsReferenceOr Refuses

-- ---- writing

-- a space and the version, if there is one
abbrev pub version_part : Option Parts → List ℕ
version_part None = []
version_part (Some version) = codes " " ++ parts_text version

-- a space and the source in brackets, if there is one
abbrev pub marked_source_part : Option MarkedSource → List ℕ
marked_source_part None = []
marked_source_part (Some source) = codes " (" ++ marked_text source ++ codes ")"

-- the text of a reference: its parts with a space between, the source escaped or plain by its mark
unfoldable pub reference_text : Reference → List ℕ
reference_text f = f.name ++ version_part f.version ++ marked_source_part f.source
