-- A lockfile in JSON: the document that `json` prints.
use Rattle.std.specs.Prelude.{ℕ, List, [], ◌∷◌, Option, codes, map}
use Rattle.std.specs.FinMap.{entries}
use Rattle.std.specs.List.{AllZip}
use Rattle.json.specs.Json.{Json, Members, array, string, object, member, no_members}
use Rattle.cargo_lock_parts.specs.Identity.{Identity}
use Rattle.cargo_lock_encoding.specs.Lockfiles.{LockfileData}
use Rattle.cargo_lock_display.specs.File.{FileData, document_json}
use Rattle.cargo_lock_json.specs.Leads.{IsLinked, IsLinkedRoot}
use Rattle.cargo_lock_json.specs.Linked.{LinkedData}
use Rattle.cargo_lock_json.specs.Package.{listed_dependencies_json, listed_package_json}
use Rattle.cargo_lock_json.specs.Package.{listed_package_or_null}
use Rattle.printing.specs.Json.{IsJsonText, items_of}

-- texts, each at its key
abbrev pub texts_members : List (List ℕ × List ℕ) → Members
texts_members [] = no_members
texts_members (pair ∷ pairs) = member pair.0 (string pair.1) (texts_members pairs)

-- the patches that no package uses
unfoldable pub patch_json : List Identity → Json
patch_json unused = object (member (codes "unused") (listed_dependencies_json unused) no_members)

-- a lockfile at a path, with its packages and its root linked
unfoldable pub lockfile_json : FileData → LockfileData → List LinkedData → Option LinkedData → Json
lockfile_json file l packages root = document_json (codes "cargo-lock-lockfile/1") file
    (member (codes "packages") (array (items_of (map listed_package_json packages)))
    (member (codes "root") (listed_package_or_null root)
    (member (codes "metadata") (object (texts_members (entries l.metadata)))
    (member (codes "patch") (patch_json l.patch) no_members))))

-- The text is the document of the lockfile at a path, with the places to which dependencies lead: it
-- reads as the document, by the reader's own definition.
pub record IsDocumentOf (path : Option (List ℕ)) (l : LockfileData) (text : List ℕ) : Type 0 where
  pub packages : List LinkedData
  pub root : Option LinkedData
  pub linked : AllZip (IsLinked l.packages) l.packages packages
  pub is_root : IsLinkedRoot l.packages l.root root
  pub reads : IsJsonText
      (lockfile_json (record { path = path; format = l.version }) l packages root) text
