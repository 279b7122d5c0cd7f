-- What `graph` prints.
use Rattle.std.specs.Prelude.{◌≡◌, ◌≢◌, ◌↔◌, ◌<◌, ◌++◌, ℕ, Bool, if◌then◌else◌, List, [], Option, codes}
use Rattle.std.specs.Prelude.{bytes_eq, length, unwrap_or}
use Rattle.std.specs.Io.KnownBytes.{Appends}
use Rattle.std.specs.List.{Contains}
use Rattle.lists.specs.Places.{IsPlaces}
use Rattle.clap.specs.Matches.{first_value}
use Rattle.clap.specs.declared.parser.matches.Found.{Found}
use Rattle.cargo_lock_parts.specs.Identity.{PackageData}
use Rattle.cargo_lock_diagram.specs.Diagram.{diagram_text}
use Rattle.cargo_lock_diagram.specs.Reach.{IsReachableFromSome}
use Rattle.cargo_lock_diagram.specs.Scene.{AreEdgesAmong}
use Rattle.cargo_lock_diagram.specs.declared.label.Target.{Target}
use Rattle.cargo_lock_diagram.specs.declared.label.Target.TheVariants.{Dot, Mermaid}
use Rattle.cargo_lock_diagram.specs.declared.scene.Arrow.{Arrow}
use Rattle.cargo_lock_encoding.specs.Lockfiles.{LockfileData}
use Rattle.cargo_lock_graph.specs.Edges.{GraphData, externals, far_ends}
use Rattle.cargo_lock_graph.specs.declared.graph.EdgeDirection.{EdgeDirection}
use Rattle.cargo_lock_graph.specs.declared.graph.EdgeDirection.TheVariants.{Incoming}
use Rattle.cargo_lock.specs.Loads.{IsMeant}
use Rattle.cli_input.specs.Json.{IsFlag}
use Rattle.cargo_lock_query.specs.Spec.{SpecFits}
use Rattle.cargo_lock_query.specs.Starts.{IsMember}
use Rattle.cli_lockfile_commands.specs.Tree.{direction_of, given_specs}
use Rattle.cargo_lock_edges.specs.OwnGraph.{IsOwnGraph}

-- the program that draws the text: Mermaid if the arguments name it, and otherwise Graphviz; the
-- parser takes no other name
abbrev pub target_in : Found → Target
target_in found = if bytes_eq (unwrap_or (first_value found (codes "format")) (codes "dot"))
    (codes "mermaid") then Mermaid else Dot

-- the places of the packages that one of the specifications fits, and each of these fits one
pub record AreFitting (specs : List (List ℕ)) (packages : List PackageData)
    (places : List ℕ) : Type 0 where
  pub listed : (k : ℕ) → Contains places k
      ↔ ((k < length packages) × (spec : List ℕ) × Contains specs spec × SpecFits spec packages k)
  pub some : (spec : List ℕ) → Contains specs spec → (k : ℕ) × Contains places k
      × SpecFits spec packages k

-- the nodes from which a picture begins without specifications: the roots, and then the packages
-- without a source
abbrev pub AreDrawnStarts : GraphData → List ℕ → Type 0
AreDrawnStarts graph starts = (members : List ℕ)
    × IsPlaces (IsMember graph) (length graph.packages) members
    × (starts ≡ externals Incoming graph ++ members)

-- the nodes from which a picture begins: without specifications those, and otherwise the packages
-- that they fit
pub record AreBegun (specs : List (List ℕ)) (graph : GraphData) (starts : List ℕ) : Type 0 where
  pub drawn : specs ≡ [] → AreDrawnStarts graph starts
  pub specified : specs ≢ [] → AreFitting specs graph.packages starts

-- a picture of a graph: the packages to which edges lead in a direction from the starts, and the
-- edges among these packages
pub record IsPicture (graph : GraphData) (direction : EdgeDirection) (starts nodes : List ℕ)
    (arrows : List Arrow) : Type 0 where
  pub reached : IsPlaces (IsReachableFromSome (far_ends direction graph.edges) starts)
      (length graph.packages) nodes
  pub among : AreEdgesAmong graph nodes arrows

-- what is printed is the text of the picture that the arguments ask for
pub record DrawsPicture (found : Found) (graph : GraphData) (old new : Option (List ℕ)) : Type 0
  where
    pub is_inverted : Bool
    pub starts : List ℕ
    pub nodes : List ℕ
    pub arrows : List Arrow
    pub inverted : IsFlag found (codes "invert") is_inverted
    pub begun : AreBegun (given_specs found) graph starts
    pub picture : IsPicture graph (direction_of is_inverted) starts nodes arrows
    pub printed : Appends old new (diagram_text (target_in found) graph.packages nodes arrows)

-- the same for the graph of a lockfile that some text means
abbrev pub DrawsGraph : Found → Option (List ℕ) → Option (List ℕ) → Type 0
DrawsGraph found old new = (l : LockfileData) × (graph : GraphData) × IsMeant l
    × IsOwnGraph l.packages graph
    × DrawsPicture found graph old new
