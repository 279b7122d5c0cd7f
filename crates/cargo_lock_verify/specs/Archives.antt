-- Which packages are verified by archives, and what is found of the others. An archive of the name
-- and version of a package has the digest of such a package, or is changed if it lies where archives
-- of the package do. A package with a checksum is verified if the bytes of one of its archives have
-- that SHA-256, and none is changed. A package of a registry should have a checksum; of any other
-- package without one there is nothing to compare.
use Rattle.std.specs.Prelude.{◌≡◌, ◌≢◌, ◌↔◌, ◌⊎◌, ◌&&◌, ◌||◌, [], ◌∷◌, ℕ, Bool, List, Option}
use Rattle.std.specs.Prelude.{None, Some, bytes_eq, false, filter, if◌then◌else◌, map, not}
use Rattle.std.specs.Prelude.{option_map, string_bytes, true}
use Rattle.std.specs.List.{Contains, flat_map, list_any}
use Rattle.cargo_lock_parts.specs.Checksum.{digest_of}
use Rattle.cargo_lock_parts.specs.Identity.{PackageData, identity_of}
use Rattle.cargo_lock_references.specs.WrittenReference.{has_name_and_version}
use Rattle.cargo_lock_parts.specs.Source.{is_of_registry}
use Rattle.cargo_lock_verify.specs.Class.{counts_of, is_clean}
use Rattle.cargo_lock_verify.specs.Hosts.{hosts_of, is_in_reach}
use Rattle.cargo_lock_verify.specs.declared.subject.Cache.{Cache}
use Rattle.cargo_lock_verify.specs.declared.class.Class.{Class}
use Rattle.cargo_lock_verify.specs.declared.class.Class.TheVariants as class
use Rattle.cargo_lock_verify.specs.declared.class.Counts.{Counts}
use Rattle.cargo_lock_verify.specs.declared.finding.Archive.{Archive}
use Rattle.cargo_lock_verify.specs.declared.finding.Finding.{Finding}
use Rattle.cargo_lock_verify.specs.declared.finding.Finding.TheVariants as finding
use Rattle.cargo_lock_verify.specs.declared.subject.Subject.{Subject}

-- an archive: its path, the SHA-256 of its bytes, and the host in the name of the index folder that
-- it lies in, if it lies in one
pub record ArchiveData : Type 0 where
  pub path : List ℕ
  pub digest : List ℕ
  pub host : Option (List ℕ)

-- the data of an archive of the program
abbrev pub archive_of : Archive → ArchiveData
archive_of a = record {
  path = string_bytes a.path;
  digest = digest_of a.digest;
  host = option_map string_bytes a.host;
}

-- a package, and the archives of its name and version
pub record ArchiveSubjectData : Type 0 where
  pub content : PackageData
  pub archives : List ArchiveData

-- the data of a subject of the program
abbrev pub archive_subject_of : Subject → ArchiveSubjectData
archive_subject_of s =
    record { content = s.«package».now; archives = map archive_of s.archives.items }

-- the packages of a lockfile, each with its archives, and the hosts of mirrors
pub record CacheData : Type 0 where
  pub subjects : List ArchiveSubjectData
  pub mirrors : List (List ℕ)

-- the same of the program
abbrev pub cache_of : Cache → CacheData
cache_of c = record {
  subjects = map archive_subject_of c.subjects.now;
  mirrors = map (λ host. host.now) c.mirrors.now;
}

-- what is found: an archive of a package is changed; a package has no archive that is its own; or
-- one of a registry has no checksum
pub data ArchiveFindingData : Type 0 where
  Changed : PackageData → ArchiveData → ArchiveFindingData
  Missing : PackageData → ArchiveFindingData
  NoChecksum : PackageData → ArchiveFindingData

-- what the archives of a package are judged by
pub record JudgeData : Type 0 where
  pub cache : CacheData
  pub content : PackageData

-- the data of a finding of the program
abbrev pub archive_finding_of : Finding → ArchiveFindingData
archive_finding_of (finding.Changed p a) = Changed p.now (archive_of a.now)
archive_finding_of (finding.Missing p) = Missing p.now
archive_finding_of (finding.NoChecksum p) = NoChecksum p.now

-- the archive has the digest
abbrev pub is_digest : List ℕ → ArchiveData → Bool
is_digest digest a = bytes_eq a.digest digest

-- the archive has the digest, if there is one
abbrev pub has_digest_if : Option (List ℕ) → ArchiveData → Bool
has_digest_if None a = false
has_digest_if (Some checksum) a = is_digest checksum a

-- the second package has the name and the version of the first, and the archive its checksum
abbrev pub is_archive_of : PackageData → ArchiveData → PackageData → Bool
is_archive_of p a q =
    has_name_and_version p.name p.version (identity_of q) && has_digest_if q.checksum a

-- the archive has the checksum of the package, or of another one with its name and its version
abbrev pub is_expected : CacheData → PackageData → ArchiveData → Bool
is_expected cache p a =
    has_digest_if p.checksum a || list_any (λ s. is_archive_of p a s.content) cache.subjects

-- the archive lies where Cargo has those of the package: in the folder of archives itself, or in an
-- index folder of the host of the package's registry or of a mirror
abbrev pub is_in_its_place : CacheData → PackageData → ArchiveData → Bool
is_in_its_place cache p a = is_in_reach cache.mirrors (hosts_of p.source) a.host

-- the archive is changed: it lies where those of the package do, and no package of that name and
-- version has its digest
abbrev pub is_changed : CacheData → PackageData → ArchiveData → Bool
is_changed cache p a = is_in_its_place cache p a && not (is_expected cache p a)

-- the archive is passed over: it lies where those of other registries do, and no package of that
-- name and version has its digest
abbrev pub is_of_another : CacheData → PackageData → ArchiveData → Bool
is_of_another cache p a = not (is_in_its_place cache p a) && not (is_expected cache p a)

-- the archives that are passed over, in the order of the packages of whose name and version they are
abbrev pub archives_of_others : CacheData → List ArchiveData
archives_of_others cache =
    flat_map (λ s. filter (is_of_another cache s.content) s.archives) cache.subjects

-- what is found of a package whose archives are not changed: that none is there, unless one has its
-- checksum
abbrev pub found_unless : PackageData → Bool → List ArchiveFindingData
found_unless p has = if has then [] else Missing p ∷ []

-- what is found of a package with this checksum: its changed archives, and, if there are none, that
-- none has the checksum
abbrev pub found_if : CacheData → PackageData → List ArchiveData → List ℕ → List ArchiveFindingData
found_if cache p archives checksum = if list_any (is_changed cache p) archives
    then map (Changed p) (filter (is_changed cache p) archives)
    else found_unless p (list_any (is_digest checksum) archives)

-- what is found of a package without a checksum: that it has none, if it is of a registry
abbrev pub found_of_unchecked : PackageData → List ArchiveFindingData
found_of_unchecked p = if is_of_registry p.source then NoChecksum p ∷ [] else []

-- what is found of a subject, with a checksum or without one
abbrev pub found_by_checksum : CacheData → ArchiveSubjectData → Option (List ℕ)
    → List ArchiveFindingData
found_by_checksum cache s None = found_of_unchecked s.content
found_by_checksum cache s (Some checksum) = found_if cache s.content s.archives checksum

-- what is found of a subject
abbrev pub found_in : CacheData → ArchiveSubjectData → List ArchiveFindingData
found_in cache s = found_by_checksum cache s s.content.checksum

-- what is found, in the order of the packages
abbrev pub archive_findings : CacheData → List ArchiveFindingData
archive_findings cache = flat_map (found_in cache) cache.subjects

-- ---- classes

-- the class of a package without a checksum
abbrev pub class_of_unchecked : PackageData → Class
class_of_unchecked p = if is_of_registry p.source then class.NoChecksum else class.NotCompared

-- the class of a package whose archives are not changed
abbrev pub class_unless : Bool → Class
class_unless has = if has then class.Matches else class.Missing

-- the class of a package with this checksum
abbrev pub class_with_checksum : CacheData → PackageData → List ArchiveData → List ℕ → Class
class_with_checksum cache p archives checksum = if list_any (is_changed cache p) archives
    then class.Changed else class_unless (list_any (is_digest checksum) archives)

-- the class of a subject, with a checksum or without one
abbrev pub class_by_checksum : CacheData → ArchiveSubjectData → Option (List ℕ) → Class
class_by_checksum cache s None = class_of_unchecked s.content
class_by_checksum cache s (Some checksum) = class_with_checksum cache s.content s.archives checksum

-- the class of a subject
abbrev pub archive_class : CacheData → ArchiveSubjectData → Class
archive_class cache s = class_by_checksum cache s s.content.checksum

-- how many packages are in each class
abbrev pub archive_counts : CacheData → Counts
archive_counts cache = counts_of (map (archive_class cache) cache.subjects)

-- ---- the same as relations

-- an archive of the subject has the checksum of its package
abbrev pub IsVerified : ArchiveSubjectData → Type 0
IsVerified s = (a : ArchiveData) × Contains s.archives a × (s.content.checksum ≡ Some a.digest)

-- the lockfile has the digest of the archive as the checksum of another package with the name and the
-- version of this one
abbrev pub IsOfNamesake : CacheData → PackageData → ArchiveData → Type 0
IsOfNamesake cache p a = (s : ArchiveSubjectData) × Contains cache.subjects s
    × (has_name_and_version p.name p.version (identity_of s.content) ≡ true)
    × (s.content.checksum ≡ Some a.digest)

-- the archive has the checksum of the package, or of another one with its name and its version
abbrev pub IsExpected : CacheData → PackageData → ArchiveData → Type 0
IsExpected cache p a = (p.checksum ≡ Some a.digest) ⊎ IsOfNamesake cache p a

-- the archive is one of the subject, whose package has a checksum; it lies where those of the package
-- do, and no package of that name and version has its digest
pub record IsChangedBy (cache : CacheData) (s : ArchiveSubjectData) (a : ArchiveData) : Type 0 where
  pub has_checksum : s.content.checksum ≢ None
  pub is_one : Contains s.archives a
  pub near : is_in_its_place cache s.content a ≡ true
  pub unknown : ¬ IsExpected cache s.content a

-- an archive of the subject is changed
abbrev pub IsChanged : CacheData → ArchiveSubjectData → Type 0
IsChanged cache s = (a : ArchiveData) × IsChangedBy cache s a

-- the package is of a registry, and the lockfile has no checksum of it
abbrev pub IsOfRegistryUnchecked : PackageData → Type 0
IsOfRegistryUnchecked p = (p.checksum ≡ None) × (is_of_registry p.source ≡ true)

-- the package has a checksum, which none of its archives has, and none is changed
pub record IsMissing (cache : CacheData) (s : ArchiveSubjectData) : Type 0 where
  pub has_checksum : s.content.checksum ≢ None
  pub unseen : ¬ IsVerified s
  pub unchanged : ¬ IsChanged cache s

-- an archive has the checksum of the package, and none is changed
pub record IsMatching (cache : CacheData) (s : ArchiveSubjectData) : Type 0 where
  pub verified : IsVerified s
  pub unchanged : ¬ IsChanged cache s

-- there is nothing to compare: the package has no checksum, and is of no registry
abbrev pub IsNotCompared : ArchiveSubjectData → Type 0
IsNotCompared s = (s.content.checksum ≡ None) × (is_of_registry s.content.source ≡ false)

-- this is found of the subject: the archive is changed; or its package is missing; or its package
-- is of a registry and has no checksum
abbrev pub IsArchiveFindingOf : CacheData → ArchiveSubjectData → ArchiveFindingData → Type 0
IsArchiveFindingOf cache s (Changed p a) = (p ≡ s.content) × IsChangedBy cache s a
IsArchiveFindingOf cache s (Missing p) = (p ≡ s.content) × IsMissing cache s
IsArchiveFindingOf cache s (NoChecksum p) = (p ≡ s.content) × IsOfRegistryUnchecked s.content

-- this is found of one of the subjects
abbrev pub IsArchiveFinding : CacheData → ArchiveFindingData → Type 0
IsArchiveFinding cache f =
    (s : ArchiveSubjectData) × Contains cache.subjects s × IsArchiveFindingOf cache s f

-- what is found is exactly that
abbrev pub ArchiveFindingsAreExact : Type 0
ArchiveFindingsAreExact = (cache : CacheData) (f : ArchiveFindingData)
    → Contains (archive_findings cache) f ↔ IsArchiveFinding cache f

-- nothing is found exactly if each package with a checksum is verified, no archive is changed, and
-- each package of a registry has a checksum
abbrev pub NoneIfVerified : Type 0
NoneIfVerified = (cache : CacheData) → (archive_findings cache ≡ [])
    ↔ ((s : ArchiveSubjectData) → Contains cache.subjects s
    → (s.content.checksum ≢ None → IsVerified s) × (¬ IsChanged cache s)
    × (¬ IsOfRegistryUnchecked s.content))

-- what each class of a subject means
abbrev pub IsOfArchiveClass : CacheData → ArchiveSubjectData → Class → Type 0
IsOfArchiveClass cache s class.Matches = IsMatching cache s
IsOfArchiveClass cache s class.Changed = IsChanged cache s
IsOfArchiveClass cache s class.Missing = IsMissing cache s
IsOfArchiveClass cache s class.NoChecksum = IsOfRegistryUnchecked s.content
IsOfArchiveClass cache s class.NotCompared = IsNotCompared s

-- each subject is in exactly the class whose meaning it has
abbrev pub ArchiveClassesAreExact : Type 0
ArchiveClassesAreExact = (cache : CacheData) (s : ArchiveSubjectData) (c : Class)
    → (archive_class cache s ≡ c) ↔ IsOfArchiveClass cache s c

-- nothing that counts is found of subjects: none is changed; if all is asked for, each package that
-- can be compared has an archive and a checksum; and if there is such a package, one is verified
pub record IsCleanOf (all : Bool) (cache : CacheData) : Type 0 where
  pub unchanged : (s : ArchiveSubjectData) → Contains cache.subjects s → ¬ IsChanged cache s
  pub complete : all ≡ true → (s : ArchiveSubjectData) → Contains cache.subjects s
      → (¬ IsMissing cache s) × (¬ IsOfRegistryUnchecked s.content)
  pub one : (s : ArchiveSubjectData) → Contains cache.subjects s → ¬ IsNotCompared s
      → (t : ArchiveSubjectData) × Contains cache.subjects t × IsVerified t

-- the counts are clean exactly then
abbrev pub ArchivesAreClean : Type 0
ArchivesAreClean = (all : Bool) (cache : CacheData)
    → (is_clean all (archive_counts cache) ≡ true) ↔ IsCleanOf all cache
