-- Sources in JSON.
use Rattle.std.specs.Prelude.{ℕ, List, Option, None, Some, codes}
use Rattle.url.specs.Parts.{serialize}
use Rattle.json.specs.Json.{Json, boolean, null, string, object, member, no_members}
use Rattle.cargo_lock_parts.specs.Source.{Kind, Source, DefaultBranch, Tag, Branch, Rev, Git, Path}
use Rattle.cargo_lock_parts.specs.Source.{Registry, SparseRegistry, LocalRegistry, Directory}
use Rattle.cargo_lock_parts.specs.SourceKey.{precise_if_git}
use Rattle.cargo_lock_parts.specs.SourceShown.{is_default_registry}
use Rattle.printing.specs.Value.{text_or_null}

-- the kind of a source
abbrev pub source_kind_text : Kind → List ℕ
source_kind_text (Git reference) = codes "git"
source_kind_text Path = codes "path"
source_kind_text Registry = codes "registry"
source_kind_text SparseRegistry = codes "sparse-registry"
source_kind_text LocalRegistry = codes "local-registry"
source_kind_text Directory = codes "directory"

-- what a git source asks for: a branch, a tag or a revision
unfoldable pub reference_json : List ℕ → List ℕ → Json
reference_json kind value = object
    (member (codes "kind") (string kind)
    (member (codes "value") (string value) no_members))

-- what a source of this kind asks for, or null if it asks for nothing
abbrev pub reference_or_null : Kind → Json
reference_or_null (Git (Tag value)) = reference_json (codes "tag") value
reference_or_null (Git (Branch value)) = reference_json (codes "branch") value
reference_or_null (Git (Rev value)) = reference_json (codes "rev") value
reference_or_null other = null

-- what a source is: its kind, its URL, what it asks for, the commit of a git source, and whether it
-- is the registry of crates.io
unfoldable pub origin_json : Source → Json
origin_json s = object
    (member (codes "kind") (string (source_kind_text s.kind))
    (member (codes "url") (string (serialize s.url))
    (member (codes "reference") (reference_or_null s.kind)
    (member (codes "precise") (text_or_null (precise_if_git s.kind s.precise))
    (member (codes "crates_io") (boolean (is_default_registry s)) no_members)))))

-- what a source is, or null if there is none
abbrev pub origin_or_null : Option Source → Json
origin_or_null None = null
origin_or_null (Some s) = origin_json s
