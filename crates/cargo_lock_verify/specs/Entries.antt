-- What is wrong with the entries of a folder that `cargo vendor` made. Cargo reads the manifest of
-- each entry that it does not pass over, and may compile any of them in place of a package. So each
-- is a folder of a package, which is compared with its list, or there is a line.
use Rattle.std.specs.Prelude.{◌≡◌, ◌↔◌, ◌⊎◌, ◌&&◌, [], ◌∷◌, ℕ, Bool, List, Option, None, Some}
use Rattle.std.specs.Prelude.{if◌then◌else◌, is_some, string_bytes, true}
use Rattle.std.specs.List.{Contains, flat_map, list_any}
use Rattle.semver.specs.Identifiers.{parts_of}
use Rattle.semver.specs.Parse.{Parts}
use Rattle.cargo_lock_parts.specs.Identity.{identity_of}
use Rattle.cargo_lock_references.specs.WrittenReference.{has_name_and_version}
use Rattle.cargo_lock_verify.specs.declared.entry.Content.{Content}
use Rattle.cargo_lock_verify.specs.declared.entry.Content.TheVariants as content
use Rattle.cargo_lock_verify.specs.declared.entry.Entry.{Entry}
use Rattle.cargo_lock_verify.specs.declared.entry.Flaw.{Flaw}
use Rattle.cargo_lock_verify.specs.declared.entry.Flaw.TheVariants as flaw
use Rattle.cargo_lock_verify.specs.declared.entry.Others.{Others}
use Rattle.cargo_lock_verify.specs.declared.entry.Others.TheVariants as others
use Rattle.cargo_lock_verify.specs.Vendored.{FolderFindingData, OfEntry, VendoredData}

-- what an entry is: Cargo passes it over; it is a link; or it is a folder whose manifest is a link,
-- has no name and version, or has these
pub data ContentData : Type 0 where
  PassedOver : ContentData
  Link : ContentData
  LinkedManifest : ContentData
  Nameless : ContentData
  Folder : List ℕ → Parts → ContentData

-- the same of the program
abbrev pub content_of : Content → ContentData
content_of content.PassedOver = PassedOver
content_of content.Link = Link
content_of content.LinkedManifest = LinkedManifest
content_of content.Nameless = Nameless
content_of (content.Folder name version) = Folder name (parts_of version)

-- an entry: its path, and what it is
pub record EntryData : Type 0 where
  pub path : List ℕ
  pub content : ContentData

-- the data of an entry of the program
abbrev pub vendored_entry : Entry → EntryData
vendored_entry e = record { path = string_bytes e.path; content = content_of e.content }

-- the package has a source, and this name and version: its folder is compared with its list
abbrev pub is_folder_of : List ℕ → Parts → VendoredData → Bool
is_folder_of name version v = is_some v.content.source
    && has_name_and_version name version (identity_of v.content)

-- a package with a source has this name and version
abbrev pub has_folder_of : List VendoredData → List ℕ → Parts → Bool
has_folder_of all name version = list_any (is_folder_of name version) all

-- what is wrong with a folder of no package
abbrev pub flaw_of_other : Others → Option Flaw
flaw_of_other others.Reported = Some flaw.OfNoPackage
flaw_of_other others.PassedOver = None

-- what is wrong with a folder of this name and version
abbrev pub flaw_of_folder : Others → List VendoredData → List ℕ → Parts → Option Flaw
flaw_of_folder who all name version =
    if has_folder_of all name version then None else flaw_of_other who

-- what is wrong with an entry, if anything is
abbrev pub flaw_of : Others → List VendoredData → ContentData → Option Flaw
flaw_of who all PassedOver = None
flaw_of who all Link = Some flaw.Link
flaw_of who all LinkedManifest = Some flaw.LinkedManifest
flaw_of who all Nameless = Some flaw.Nameless
flaw_of who all (Folder name version) = flaw_of_folder who all name version

-- the finding of an entry, if something is wrong with it
abbrev pub found_at : List ℕ → Option Flaw → List FolderFindingData
found_at path None = []
found_at path (Some f) = OfEntry path f ∷ []

-- what is found of an entry
abbrev pub entry_found : Others → List VendoredData → EntryData → List FolderFindingData
entry_found who all e = found_at e.path (flaw_of who all e.content)

-- what is found of entries, in their order
abbrev pub entry_findings : Others → List VendoredData → List EntryData → List FolderFindingData
entry_findings who all = flat_map (entry_found who all)

-- ---- the same as relations

-- the entry is a folder of a package with a source
abbrev pub IsFolderOfPackage : List VendoredData → ContentData → Type 0
IsFolderOfPackage all c = (v : VendoredData) × Contains all v × (is_some v.content.source ≡ true)
    × (c ≡ Folder v.content.name v.content.version)

-- the entry is a folder of another package, and these are passed over
abbrev pub IsOfAnother : Others → ContentData → Type 0
IsOfAnother who c = (who ≡ others.PassedOver) × ((name : List ℕ) × ((version : Parts)
    × (c ≡ Folder name version)))

-- an entry has a line exactly if Cargo does not pass it over, it is no folder of a package, and it is
-- not a folder of another package where these are passed over
abbrev pub LinesOfEntriesAreExact : Type 0
LinesOfEntriesAreExact = (who : Others) (all : List VendoredData) (e : EntryData)
    → (entry_found who all e ≡ []) ↔ ((e.content ≡ PassedOver) ⊎ (IsFolderOfPackage all e.content
    ⊎ IsOfAnother who e.content))

-- what is found of entries is exactly what is wrong with each
abbrev pub EntryFindingsAreExact : Type 0
EntryFindingsAreExact = (who : Others) (all : List VendoredData) (entries : List EntryData)
    (x : FolderFindingData) → Contains (entry_findings who all entries) x
    ↔ ((e : EntryData) × Contains entries e × ((f : Flaw)
    × (flaw_of who all e.content ≡ Some f) × (x ≡ OfEntry e.path f)))
