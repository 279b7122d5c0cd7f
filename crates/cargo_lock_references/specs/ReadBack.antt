-- Which versions, sources and references read back from their texts.
use Rattle.std.specs.Prelude.{◌≡◌, ℕ, Bool, false, List, Some, IfSome, option_map}
use Rattle.semver.specs.Identifiers.{parts_text}
use Rattle.semver.specs.Parse.{Parts}
use Rattle.cargo_lock_parts.specs.Checksum.{digest_in, digest_text}
use Rattle.cargo_lock_parts.specs.Identity.{Identity, identity_key}
use Rattle.cargo_lock_parts.specs.Source.{MarkedSource, Source, is_path}
use Rattle.cargo_lock_parts.specs.SourceKey.{key_of}
use Rattle.cargo_lock_parts.specs.SourceReading.{source_of}
use Rattle.cargo_lock_parts.specs.SourceText.{marked_text}
use Rattle.cargo_lock_references.specs.WrittenReference.{mark}
use Rattle.cargo_lock_references.specs.Reference.{Reference, version_of}
use Rattle.cargo_lock_references.specs.ResolvesTo.{ResolvesTo}
use Rattle.cargo_lock_references.specs.Words.{IsDense, IsWord}

-- ---- texts that read back

-- the version reads back from its text
abbrev pub VersionSurvives : Parts → Type 0
VersionSurvives v = version_of (parts_text v) ≡ Some v

-- the text of the source, by its mark, reads as a source with the same key
abbrev pub SourceTextReadsBack : MarkedSource → Type 0
SourceTextReadsBack m = option_map key_of (source_of (marked_text m)) ≡ Some (key_of m.source)

-- the source is not a path, so it is written, and its text reads back
abbrev pub SourceSurvives : Bool → Source → Type 0
SourceSurvives escaped s = (is_path s.kind ≡ false) × SourceTextReadsBack (mark escaped s)

-- the digest reads back from its text, as the 32 bytes of every checksum do
abbrev pub DigestReadsBack : List ℕ → Type 0
DigestReadsBack digest = digest_in (digest_text digest) ≡ Some digest

-- ---- references

-- each part of the reference is written without white space and reads back
pub record WordsReadBack (f : Reference) : Type 0 where
  pub name : IsWord f.name
  pub version : IfSome f.version (λ v. IsWord (parts_text v) × VersionSurvives v)
  pub source : IfSome f.source (λ m. IsDense (marked_text m) × SourceTextReadsBack m)

-- the reference resolves to an identity that is equal to this one
abbrev pub ResolvesToEqual : Reference → List Identity → Identity → Type 0
ResolvesToEqual f list d = (i : Identity) × ResolvesTo f list i × (identity_key i ≡ identity_key d)

-- a reference to this dependency: its text reads back, and it resolves to the dependency in this
-- list
pub record ReferenceSurvives (f : Reference) (list : List Identity) (d : Identity) : Type 0 where
  pub written : WordsReadBack f
  pub resolves : ResolvesToEqual f list d
