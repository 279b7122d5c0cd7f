-- The metadata of a lockfile. In V1 it has the checksums of the packages: the key is `checksum `
-- and the text of a package's identity, and the value is the digest in hex.
-- The rule is that of `src/metadata.rs` of the Rust crate `cargo-lock` 11.0.1.
use Rattle.std.specs.Prelude.{◌&&◌, not, if◌then◌else◌, Bool, false, ℕ, List, [], ◌∷◌, ◌++◌, Option}
use Rattle.std.specs.Prelude.{Some, None, Result, Ok, Err, codes, take, drop, reverse}
use Rattle.std.specs.FinMap.{entries, from_entries, retain_keys}
use Rattle.std.specs.List.{find, list_any}
use Rattle.std.specs.Result.{result_ok}
use Rattle.semver.specs.Parse.{Parts}
use Rattle.cargo_lock_parts.specs.Checksum.{digest_in, digest_text}
use Rattle.cargo_lock_parts.specs.Identity.{Identity, PackageData, identity_of, dependency_text}
use Rattle.cargo_lock_references.specs.declared.version.ResolveVersion.{ResolveVersion}
use Rattle.cargo_lock_references.specs.declared.version.ResolveVersion.TheVariants.{V1, V2, V3, V4}
use Rattle.cargo_lock_references.specs.Reference.{Reference, Refusal, NoReference}
use Rattle.cargo_lock_references.specs.Reference.{reference_or_refusal}
use Rattle.cargo_lock_parts.specs.Optional.{◌>>=◌}
use Rattle.cargo_lock_references.specs.Records.{Texts}
use Rattle.cargo_lock_references.specs.ResolutionSearch.{own_words, same_text, same_parts}

-- ---- keys

-- the key of an identity's checksum
unfoldable pub checksum_key : Identity → List ℕ
checksum_key d = codes "checksum " ++ dependency_text d

-- the key begins with `checksum `
unfoldable pub is_checksum : List ℕ → Bool
is_checksum k = same_text (codes "checksum ") (take 9 k)

-- an identity, or the refusal if there is none
abbrev pub or_refused : Option Identity → Result Identity Refusal
or_refused None = Err NoReference
or_refused (Some i) = Ok i

-- the identity that a reference is by itself, which needs a version
abbrev pub own_identity : Result Reference Refusal → Result Identity Refusal
own_identity (Err refusal) = Err refusal
own_identity (Ok f) = or_refused (own_words f)

-- the identity that a key reads as, or why it reads as none
unfoldable pub key_or_refusal : List ℕ → Result Identity Refusal
key_or_refusal k = if is_checksum k then own_identity (reference_or_refusal (drop 9 k))
    else Err NoReference

-- the identity that a key reads as
abbrev pub key_identity : List ℕ → Option Identity
key_identity k = result_ok (key_or_refusal k)

-- ---- the checksum in the metadata for a package

-- the identity has this name and this version
abbrev pub is_named : List ℕ → Parts → Option Identity → Bool
is_named name version None = false
is_named name version (Some d) = same_text d.name name && same_parts d.version version

-- the key reads as this name and this version; the source is not compared
abbrev pub reads_as : List ℕ → Parts → List ℕ → Bool
reads_as name version k = is_named name version (key_identity k)

-- the value at the least key that reads as this name and this version, as a checksum
unfoldable pub checksum_in : Texts → List ℕ → Parts → Option (List ℕ)
checksum_in m name version = find (λ e. reads_as name version e.0) (entries m)
    >>= λ e. digest_in e.1

-- some key begins with `checksum `
unfoldable pub has_checksum_key : Texts → Bool
has_checksum_key m = list_any (λ e. is_checksum e.0) (entries m)

-- ---- the metadata that is written

-- the key and the text of a package's checksum, if it has one, before other pairs
abbrev pub pairs_before : PackageData → Option (List ℕ) → List (List ℕ × List ℕ)
    → List (List ℕ × List ℕ)
pairs_before p None pairs = pairs
pairs_before p (Some c) pairs = (checksum_key (identity_of p), digest_text c) ∷ pairs

-- each package with a checksum: its key and that checksum
abbrev pub checksum_pairs : List PackageData → List (List ℕ × List ℕ)
checksum_pairs [] = []
checksum_pairs (p ∷ ps) = pairs_before p p.checksum (checksum_pairs ps)

-- V1: at each key the checksum of the last package that has the key and a checksum, and at every
-- other key the old value
unfoldable pub with_checksums : Texts → List PackageData → Texts
with_checksums m ps = from_entries (reverse (checksum_pairs ps) ++ entries m)

-- the key is the checksum key of the package
abbrev pub has_key : List ℕ → PackageData → Bool
has_key k p = same_text k (checksum_key (identity_of p))

-- from V2 on: the old pairs whose key is not a package's checksum key
unfoldable pub without_checksums : Texts → List PackageData → Texts
without_checksums m ps = retain_keys m (λ k. not (list_any (has_key k) ps))

-- the metadata that is written in a format
abbrev pub metadata_of : ResolveVersion → Texts → List PackageData → Texts
metadata_of V1 m ps = with_checksums m ps
metadata_of V2 m ps = without_checksums m ps
metadata_of V3 m ps = without_checksums m ps
metadata_of V4 m ps = without_checksums m ps
