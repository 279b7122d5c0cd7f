-- What is wrong with the folders of packages, as `cargo vendor` leaves them. Each has a list of its
-- files, with the SHA-256 of each and of the archive of the package.
use Rattle.std.specs.Prelude.{◌≡◌, ◌≢◌, ◌↔◌, ◌++◌, [], ◌∷◌, ℕ, Bool, IsSome, List, Option, None, Some, map}
use Rattle.std.specs.Prelude.{◌==◌, ◌&&◌, String, bytes_eq, if◌then◌else◌, is_none, length, option_map, string_bytes, true}
use Rattle.std.specs.BTreeMap.{BTreeMap, get_by_text}
use Rattle.std.specs.List.{Contains, flat_map}
use Rattle.std.specs.Option.{option_eq}
use Rattle.cargo_lock_parts.specs.Checksum.{digest_of}
use Rattle.cargo_lock_parts.specs.Identity.{PackageData}
use Rattle.cargo_lock_parts.specs.Source.{Source, is_of_registry}
use Rattle.cargo_lock_parts.specs.declared.package.checksum.Checksum.{Checksum}
use Rattle.cargo_lock_verify.specs.Class.{counts_of}
use Rattle.cargo_lock_verify.specs.declared.class.Class.{Class}
use Rattle.cargo_lock_verify.specs.declared.class.Class.TheVariants as class
use Rattle.cargo_lock_verify.specs.declared.class.Counts.{Counts}
use Rattle.cargo_lock_verify.specs.declared.entry.Flaw.{Flaw}
use Rattle.cargo_lock_verify.specs.declared.folder.FileDigests.{FileDigests}
use Rattle.cargo_lock_verify.specs.declared.folder.Folder.{Folder}
use Rattle.cargo_lock_verify.specs.declared.folder.FolderFinding.{FolderFinding}
use Rattle.cargo_lock_verify.specs.declared.folder.FolderFinding.TheVariants as finding
use Rattle.cargo_lock_verify.specs.declared.folder.Vendored.{Vendored}

-- a package, and the folders of its name and version
pub record VendoredData : Type 0 where
  pub content : PackageData
  pub folders : List Folder

-- the data of a package of the program
abbrev pub vendored_of : Vendored → VendoredData
vendored_of v = record { content = v.«package».now; folders = v.folders.items }

-- a file of a list: its path, and its digest
pub record ListedData : Type 0 where
  pub path : List ℕ
  pub digest : List ℕ

-- the data of a file of the program
abbrev pub listed_of : {Y : Type 0} → String Y → Checksum → ListedData
listed_of path digest = record { path = string_bytes path; digest = digest_of digest }

-- the files of a list, or those of a folder, in the order of their paths
abbrev pub files_of : {Y : Type 0} → BTreeMap (String Y) Checksum → List ListedData
files_of files = map (λ e. listed_of e.0 e.1) files.entries

-- the digest at a path
abbrev pub digest_at : {Y : Type 0} → BTreeMap (String Y) Checksum → List ℕ → Option (List ℕ)
digest_at files path = option_map digest_of (get_by_text files path)

-- What is found: a package with a source has no folder; the list of a folder has another digest of
-- the archive than the lockfile; a file of a list is missing, or has another digest, which comes
-- first, than the list says; a file is not in the list; there is a link; a package of a registry has
-- no checksum in the lockfile; or something is wrong with the entry at a path.
pub data FolderFindingData : Type 0 where
  NoFolder : PackageData → FolderFindingData
  OtherArchive : PackageData → Folder → FolderFindingData
  Absent : PackageData → Folder → List ℕ → FolderFindingData
  OtherFile : PackageData → Folder → List ℕ → List ℕ → List ℕ → FolderFindingData
  Unlisted : PackageData → Folder → List ℕ → FolderFindingData
  Link : PackageData → Folder → List ℕ → FolderFindingData
  NoChecksum : PackageData → FolderFindingData
  OfEntry : List ℕ → Flaw → FolderFindingData

-- the data of a finding of the program
abbrev pub folder_finding_of : FolderFinding → FolderFindingData
folder_finding_of (finding.NoFolder p) = NoFolder p.now
folder_finding_of (finding.OtherArchive p f) = OtherArchive p.now f.now
folder_finding_of (finding.Absent p f path) = Absent p.now f.now (string_bytes path.now)
folder_finding_of (finding.OtherFile p f file) = OtherFile p.now f.now (string_bytes file.path.now)
    (digest_of file.digest.now) (digest_of file.listed.now)
folder_finding_of (finding.Unlisted p f path) = Unlisted p.now f.now (string_bytes path.now)
folder_finding_of (finding.Link p f path) = Link p.now f.now (string_bytes path.now)
folder_finding_of (finding.NoChecksum p) = NoChecksum p.now
folder_finding_of (finding.OfEntry e f) = OfEntry (string_bytes e.now.path) f

-- the list of the folder has the digest of the archive that the lockfile has, if both have one
abbrev pub is_same_archive : PackageData → Folder → Bool
is_same_archive p f = option_eq bytes_eq (option_map digest_of f.archive) p.checksum

-- what is found of the archive in the list of a folder
abbrev pub archive_found : PackageData → Folder → List FolderFindingData
archive_found p f = if is_same_archive p f then [] else OtherArchive p f ∷ []

-- what is found of a file of the list, where this digest, or none, is that of the file
abbrev pub listed_by : PackageData → Folder → ListedData → Option (List ℕ) → List FolderFindingData
listed_by p f l None = Absent p f l.path ∷ []
listed_by p f l (Some digest) = if bytes_eq digest l.digest then []
    else OtherFile p f l.path digest l.digest ∷ []

-- what is found of a file of the list
abbrev pub of_listed : PackageData → Folder → ListedData → List FolderFindingData
of_listed p f l = listed_by p f l (digest_at f.files l.path)

-- what is found of the files of the list
abbrev pub listed_found : PackageData → Folder → List FolderFindingData
listed_found p f = flat_map (of_listed p f) (files_of f.listed)

-- what is found of a file that is there
abbrev pub of_file : PackageData → Folder → ListedData → List FolderFindingData
of_file p f l = if is_none (get_by_text f.listed l.path) then Unlisted p f l.path ∷ [] else []

-- what is found of the files that are there
abbrev pub files_found : PackageData → Folder → List FolderFindingData
files_found p f = flat_map (of_file p f) (files_of f.files)

-- what is found of the links that are there
abbrev pub links_found : PackageData → Folder → List FolderFindingData
links_found p f = map (λ l. Link p f (string_bytes l)) f.links.items

-- what is found of a folder
abbrev pub folder_found : PackageData → Folder → List FolderFindingData
folder_found p f = archive_found p f ++ (listed_found p f ++ (files_found p f ++ links_found p f))

-- what is found of each of some folders
abbrev pub each_found : PackageData → List Folder → List FolderFindingData
each_found p = flat_map (folder_found p)

-- what is found of the folders of a package with a source
abbrev pub folders_found : PackageData → List Folder → List FolderFindingData
folders_found p [] = NoFolder p ∷ []
folders_found p (f ∷ rest) = each_found p (f ∷ rest)

-- the package is of a registry, and the lockfile has no checksum of it
abbrev pub is_unchecked : PackageData → Bool
is_unchecked p = is_of_registry p.source && is_none p.checksum

-- what is found of the checksum of a package
abbrev pub checksum_found : PackageData → List FolderFindingData
checksum_found p = if is_unchecked p then NoChecksum p ∷ [] else []

-- what is found of the folders of a package, which has this source
abbrev pub found_by_source : VendoredData → Option Source → List FolderFindingData
found_by_source v None = []
found_by_source v (Some s) = checksum_found v.content ++ folders_found v.content v.folders

-- what is found of the folders of a package
abbrev pub vendored_found : VendoredData → List FolderFindingData
vendored_found v = found_by_source v v.content.source

-- what is found of packages, in their order
abbrev pub folder_findings : List VendoredData → List FolderFindingData
folder_findings = flat_map vendored_found

-- ---- classes

-- nothing is found of the folders of a package
abbrev pub is_as_listed : VendoredData → Bool
is_as_listed v = length (folders_found v.content v.folders) == 0

-- the class of a package with a source
abbrev pub class_of_sourced : VendoredData → Class
class_of_sourced v = if is_unchecked v.content then class.NoChecksum
    else (if length v.folders == 0 then class.Missing
    else (if is_as_listed v then class.Matches else class.Changed))

-- the class of a package that has this source
abbrev pub class_by_source : VendoredData → Option Source → Class
class_by_source v None = class.NotCompared
class_by_source v (Some s) = class_of_sourced v

-- the class of a package
abbrev pub folder_class : VendoredData → Class
folder_class v = class_by_source v v.content.source

-- how many packages are in each class
abbrev pub folder_counts : List VendoredData → Counts
folder_counts all = counts_of (map folder_class all)

-- ---- as the program has them

-- what is found of a file of the program
abbrev pub file_found : PackageData → Folder → FileDigests → List FolderFindingData
file_found p f file = listed_by p f (listed_of file.path.now file.listed.now)
    (Some (digest_of file.digest.now))

-- ---- the same as relations

-- the folder is as its list says: it has the archive of the package, each file of the list with its
-- digest, no other file, and no link
pub record IsAsListed (p : PackageData) (f : Folder) : Type 0 where
  pub archive : option_map digest_of f.archive ≡ p.checksum
  pub listed : (l : ListedData) → Contains (files_of f.listed) l
      → digest_at f.files l.path ≡ Some l.digest
  pub files : (l : ListedData) → Contains (files_of f.files) l
      → IsSome (digest_at f.listed l.path)
  pub links : f.links.items ≡ []

-- the package has a folder, and each of its folders is as its list says
pub record IsVendored (v : VendoredData) : Type 0 where
  pub some : v.folders ≢ []
  pub each : (f : Folder) → Contains v.folders f → IsAsListed v.content f

-- the package is of a registry, and the lockfile has no checksum of it
abbrev pub IsOfRegistryWithout : PackageData → Type 0
IsOfRegistryWithout p = is_unchecked p ≡ true

-- nothing is found exactly if each package with a source has a folder, each of its folders is as its
-- list says, and, if it is of a registry, the lockfile has its checksum
abbrev pub NoneIfVendored : Type 0
NoneIfVendored = (all : List VendoredData) → (folder_findings all ≡ [])
    ↔ ((v : VendoredData) → Contains all v → v.content.source ≢ None
    → IsVendored v × (¬ IsOfRegistryWithout v.content))

-- this is found of the folder of a package
abbrev pub IsFoundIn : PackageData → Folder → FolderFindingData → Type 0
IsFoundIn p f (NoFolder q) = ⊥
IsFoundIn p f (OtherArchive q g) = (q ≡ p) × (g ≡ f) × (option_map digest_of f.archive ≢ p.checksum)
IsFoundIn p f (Absent q g path) = (q ≡ p) × (g ≡ f) × ((l : ListedData)
    × Contains (files_of f.listed) l × (l.path ≡ path) × (digest_at f.files path ≡ None))
IsFoundIn p f (OtherFile q g path digest listed) = (q ≡ p) × (g ≡ f)
    × Contains (files_of f.listed) (record { path = path; digest = listed })
    × (digest_at f.files path ≡ Some digest) × (digest ≢ listed)
IsFoundIn p f (Unlisted q g path) = (q ≡ p) × (g ≡ f) × ((l : ListedData)
    × Contains (files_of f.files) l × (l.path ≡ path) × (digest_at f.listed path ≡ None))
IsFoundIn p f (Link q g path) = (q ≡ p) × (g ≡ f) × Contains (map string_bytes f.links.items) path
IsFoundIn p f (NoChecksum q) = ⊥
IsFoundIn p f (OfEntry path flaw) = ⊥

-- this is found of a package with a source: it has no folder; it has no checksum, though it is of a
-- registry; or it is found of one of its folders
abbrev pub IsFolderFindingOf : VendoredData → FolderFindingData → Type 0
IsFolderFindingOf v (NoFolder q) = (q ≡ v.content) × (v.folders ≡ [])
IsFolderFindingOf v (NoChecksum q) = (q ≡ v.content) × IsOfRegistryWithout v.content
IsFolderFindingOf v other = (f : Folder) × Contains v.folders f × IsFoundIn v.content f other

-- what is found is exactly that, of each package with a source
abbrev pub FolderFindingsAreExact : Type 0
FolderFindingsAreExact = (all : List VendoredData) (x : FolderFindingData)
    → Contains (folder_findings all) x
    ↔ ((v : VendoredData) × Contains all v × (v.content.source ≢ None) × IsFolderFindingOf v x)

-- the package has a source, and the lockfile has its checksum if it is of a registry
abbrev pub IsCompared : PackageData → Type 0
IsCompared p = (p.source ≢ None) × (¬ IsOfRegistryWithout p)

-- what each class of a package means
abbrev pub IsOfFolderClass : VendoredData → Class → Type 0
IsOfFolderClass v class.Matches = IsCompared v.content × IsVendored v
IsOfFolderClass v class.Changed = IsCompared v.content × (v.folders ≢ []) × (¬ IsVendored v)
IsOfFolderClass v class.Missing = IsCompared v.content × (v.folders ≡ [])
IsOfFolderClass v class.NoChecksum = IsOfRegistryWithout v.content
IsOfFolderClass v class.NotCompared = v.content.source ≡ None

-- each package is in exactly the class whose meaning it has
abbrev pub FolderClassesAreExact : Type 0
FolderClassesAreExact = (v : VendoredData) (c : Class)
    → (folder_class v ≡ c) ↔ IsOfFolderClass v c
