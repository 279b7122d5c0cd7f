-- The bill of materials of a graph, as CycloneDX 1.6 has it in JSON.
-- The members are those at the top of its JSON schema.
use Rattle.std.specs.Prelude.{◌≡◌, ℕ, List, codes, Some}
use Rattle.json.specs.Lex.{tokens}
use Rattle.json.specs.Token.{Token}
use Rattle.serde_json.specs.Data.{Data, number, unsigned, string, array, object, member}
use Rattle.serde_json.specs.Data.{no_members}
use Rattle.serde_json.specs.Read.{read}
use Rattle.serde_json.specs.View.{items_of}
use Rattle.cargo_lock_graph.specs.Edges.{GraphData}
use Rattle.cargo_lock_bom.specs.declared.root.Root.{Root}
use Rattle.cargo_lock_bom.specs.Component.{AreComponents}
use Rattle.cargo_lock_bom.specs.Dependencies.{AreBillEntries}
use Rattle.cargo_lock_bom.specs.Metadata.{IsBillMetadata}
use Rattle.cargo_lock_bom.specs.Options.{OptionsData}
use Rattle.cargo_lock_bom.specs.References.{HaveDistinctReferences}
use Rattle.cargo_lock_bom.specs.Root.{IsRootOf}
use Rattle.cargo_lock_bom.specs.Serial.{numbered}

-- the document of components, of entries that list the dependencies of each, and of metadata
unfoldable pub bill_document : List Data → List Data → Data → Data
bill_document components entries metadata = object
    (member (codes "bomFormat") (string (codes "CycloneDX"))
    (member (codes "components") (array (items_of components))
    (member (codes "dependencies") (array (items_of entries))
    (member (codes "metadata") metadata
    (member (codes "specVersion") (string (codes "1.6"))
    (member (codes "version") (number (unsigned 1)) no_members))))))

-- the document of a graph with this root, without a serial number
pub record IsAbout (graph : GraphData) (root : Root) (options : OptionsData) (d : Data) : Type 0
  where
    pub components : List Data
    pub entries : List Data
    pub metadata : Data
    pub are_components : AreComponents graph options root components
    pub are_entries : AreBillEntries graph options root entries
    pub is_metadata : IsBillMetadata graph root options metadata
    pub is : d ≡ bill_document components entries metadata

-- The bill of a graph: the root is the component of the metadata, each other package that the
-- options list is one of the components, in order, each listed once, each package that is listed
-- has an entry, and so does the workspace if it is the root, and each text refers to one component.
-- A component has the licence that the options have of its package, if they have one. If they ask
-- for it, the bill has a serial number.
pub record IsBill (graph : GraphData) (options : OptionsData) (d : Data) : Type 0 where
  pub root : Root
  pub is_root : IsRootOf graph options.root root
  pub distinct : HaveDistinctReferences graph.packages
  pub plain : Data
  pub about : IsAbout graph root options plain
  pub is : d ≡ numbered options.has_serial plain

-- the text reads, as JSON, as the bill of the graph
pub record ReadsAsBill (graph : GraphData) (options : OptionsData) (text : List ℕ) : Type 0 where
  pub bill : Data
  pub is : IsBill graph options bill
  pub reads : read text ≡ Some bill

-- the text is that of its own tokens, in a layout
abbrev pub IsLaidOut : (List Token → List ℕ) → List ℕ → Type 0
IsLaidOut layout text = text ≡ layout (tokens text)
