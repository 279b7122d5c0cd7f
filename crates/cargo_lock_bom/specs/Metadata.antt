-- The metadata of a bill.
-- The members are those of `metadata` in the JSON schema of CycloneDX 1.6.
use Rattle.std.specs.Prelude.{◌≡◌, ℕ, ◌*◌, false, List, [], ◌∷◌, ◌++◌, codes, pos, Option, Some, None}
use Rattle.std.specs.Prelude.{map, option_map}
use Rattle.jiff_core.specs.declared.civil.datetime.DateTime.{DateTime}
use Rattle.jiff_core.specs.DateTime.{civil_nanos}
use Rattle.jiff_fmt.specs.Text.{datetime_text}
use Rattle.serde_json.specs.Data.{Data, Members, string, array, object, item, no_items, member}
use Rattle.serde_json.specs.Data.{no_members}
use Rattle.serde_json.specs.View.{items_of}
use Rattle.cargo_lock_graph.specs.Edges.{GraphData}
use Rattle.cargo_lock_bom.specs.declared.root.Root.{Root}
use Rattle.cargo_lock_bom.specs.Component.{put_some, root_component}
use Rattle.cargo_lock_bom.specs.Options.{OptionsData}

-- ---- the time

-- the text of the time that is this many seconds after the start of 1970, in UTC, in the form of
-- RFC 3339: `2024-06-19T17:30:05Z`
pub record IsTimeText (seconds : ℕ) (text : List ℕ) : Type 0 where
  pub moment : DateTime
  pub is_moment : civil_nanos moment ≡ pos (seconds * 1_000_000_000)
  pub is : text ≡ datetime_text false 84 None moment ++ codes "Z"

-- the text of a time, if there is one
abbrev pub IsTimeTextIf : Option ℕ → Option (List ℕ) → Type 0
IsTimeTextIf None text = text ≡ None
IsTimeTextIf (Some seconds) text = (t : List ℕ) × IsTimeText seconds t × (text ≡ Some t)

-- ---- the metadata

-- an author of this name
abbrev pub author_of : List ℕ → Data
author_of name = object (member (codes "name") (string name) no_members)

-- the list of the authors of these names
abbrev pub authors_of : List (List ℕ) → Data
authors_of names = array (items_of (map author_of names))

-- that list, if there is an author
abbrev pub authors_if : List (List ℕ) → Option Data
authors_if [] = None
authors_if (name ∷ names) = Some (authors_of (name ∷ names))

-- a property of this name and value
abbrev pub property_object : List ℕ × List ℕ → Data
property_object p =
    object (member (codes "name") (string p.0) (member (codes "value") (string p.1) no_members))

-- the list of these properties
abbrev pub properties_of : List (List ℕ × List ℕ) → Data
properties_of properties = array (items_of (map property_object properties))

-- that list, if there is a property
abbrev pub properties_if : List (List ℕ × List ℕ) → Option Data
properties_if [] = None
properties_if (p ∷ ps) = Some (properties_of (p ∷ ps))

-- the bill is made from a lockfile, before anything is built
abbrev pub lifecycles : Data
lifecycles =
    array (item (object (member (codes "phase") (string (codes "pre-build")) no_members)) no_items)

-- the program that wrote the bill, in this version
abbrev pub tools_of : List ℕ → Data
tools_of version = object
    (member (codes "components") (array (item (object
    (member (codes "name") (string (codes "cargo-lock"))
    (member (codes "type") (string (codes "application"))
    (member (codes "version") (string version) no_members)))) no_items))
    no_members)

-- the members that the metadata of each bill have
abbrev pub own_members : List ℕ → Members
own_members version = member (codes "lifecycles") lifecycles
    (member (codes "tools") (tools_of version) no_members)

-- these, and the authors, the properties, the component of the root and the time, if there are any
unfoldable pub bill_metadata : List ℕ → List (List ℕ) → List (List ℕ × List ℕ) → Option Data
    → Option (List ℕ) → Data
bill_metadata version authors properties component time = object
    (put_some (codes "timestamp") (option_map string time)
    (put_some (codes "properties") (properties_if properties)
    (put_some (codes "component") component
    (put_some (codes "authors") (authors_if authors) (own_members version)))))

-- the metadata of the bill of a graph with this root
pub record IsBillMetadata (graph : GraphData) (root : Root) (options : OptionsData) (d : Data)
    : Type 0 where
  pub time : Option (List ℕ)
  pub is_time : IsTimeTextIf options.timestamp time
  pub is : d ≡ bill_metadata options.tool_version options.authors options.properties
      (root_component graph options.licenses root) time
