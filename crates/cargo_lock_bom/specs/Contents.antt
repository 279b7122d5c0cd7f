-- What a bill of a graph has, by nodes, before it is written.
use Rattle.std.specs.Prelude.{◌≡◌, ℕ, List, [], codes, map, length, Option, None, Some}
use Rattle.std.specs.Prelude.{option_map, slice_get, string_bytes, unwrap_or}
use Rattle.json.specs.Lex.{tokens}
use Rattle.serde_json.specs.Data.{Data, array, member, no_members, object, string}
use Rattle.serde_json.specs.View.{items_of}
use Rattle.cargo_lock_parts.specs.Identity.{PackageData}
use Rattle.cargo_lock_graph.specs.Edges.{GraphData}
use Rattle.cargo_lock_bom.specs.declared.contents.Contents.{Contents}
use Rattle.cargo_lock_bom.specs.declared.dependencies.Entry.{Entry}
use Rattle.cargo_lock_bom.specs.Component.{IsComponent, component_at, root_component}
use Rattle.cargo_lock_bom.specs.Dependencies.{AreBillEntries, entry_with, node_reference}
use Rattle.cargo_lock_bom.specs.Document.{bill_document}
use Rattle.cargo_lock_bom.specs.Tokens.{data_tokens}
use Rattle.cargo_lock_bom.specs.Metadata.{IsTimeTextIf, bill_metadata}
use Rattle.cargo_lock_bom.specs.Options.{OptionsData}
use Rattle.lists.specs.Places.{IsPlaces}
use Rattle.printing.specs.declared.document.Layout.{Layout}
use Rattle.printing.specs.Json.{laid_out}
use Rattle.cargo_lock_bom.specs.References.{package_reference, workspace_reference}
use Rattle.cargo_lock_bom.specs.Root.{IsRootOf, IsWithin}
use Rattle.cargo_lock_bom.specs.Serial.{with_serial}

-- the text at a place, if there is one
abbrev pub text_at : List (List ℕ) → ℕ → List ℕ
text_at texts place = unwrap_or (slice_get texts place) []

-- the text of a package, by its node, or of the workspace
abbrev pub own_text : List (List ℕ) → Option ℕ → List ℕ
own_text texts None = workspace_reference
own_text texts (Some node) = text_at texts node

-- the entry with the texts of its nodes
abbrev pub entry_by : List (List ℕ) → Entry → Data
entry_by texts e = object
    (member (codes "dependsOn") (array (items_of (map (λ k. string (text_at texts k)) e.on.items)))
    (member (codes "ref") (string (own_text texts e.of)) no_members))

-- the text that refers to a package, by its node, or to the workspace
abbrev pub own_reference : List PackageData → Option ℕ → List ℕ
own_reference packages None = workspace_reference
own_reference packages (Some node) = node_reference packages node

-- the entry with the texts that refer to the packages of its nodes
abbrev pub entry_for : List PackageData → Entry → Data
entry_for packages e = entry_with packages (own_reference packages e.of) e.on.items

-- the contents are those of the bill of a graph
pub record AreContents (graph : GraphData) (options : OptionsData) (contents : Contents) : Type 0
  where
    pub is_root : IsRootOf graph options.root contents.root
    pub within : IsWithin graph.packages contents.root
    pub are_others : IsPlaces (IsComponent graph options contents.root) (length graph.packages)
        contents.nodes.items
    pub are_entries : AreBillEntries graph options contents.root
        (map (entry_for graph.packages) contents.entries.items)
    pub are_texts : map string_bytes contents.texts.items ≡ map package_reference graph.packages
    pub is_time : IsTimeTextIf options.timestamp (option_map string_bytes contents.time)

-- the metadata of a bill with these contents
abbrev pub metadata_with : GraphData → OptionsData → Contents → Data
metadata_with graph options contents = bill_metadata options.tool_version options.authors
    options.properties (root_component graph options.licenses contents.root)
    (option_map string_bytes contents.time)

-- the bill with these contents, without a serial number
abbrev pub bill_with : GraphData → OptionsData → Contents → Data
bill_with graph options contents = bill_document
    (map (component_at graph options.licenses) contents.nodes.items)
    (map (entry_for graph.packages) contents.entries.items)
    (metadata_with graph options contents)

-- the document with a serial number, if there is one
abbrev pub with_serial_if : Option (List ℕ) → Data → Data
with_serial_if None d = d
with_serial_if (Some serial) d = with_serial serial d

-- the text has the tokens of a value, in this layout
pub record IsTextOfData (layout : Layout) (d : Data) (text : List ℕ) : Type 0 where
  pub has : tokens text ≡ data_tokens d
  pub is : text ≡ laid_out layout (data_tokens d)
