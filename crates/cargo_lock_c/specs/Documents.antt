-- Documents of JSON about a lockfile, as callers get them: as the program prints them for the
-- lockfile on standard input.
use Rattle.std.specs.Prelude.{◌≡◌, ◌≢◌, ◌++◌, ◌∷◌, ℕ, Bool, List, [], None, length}
use Rattle.cargo_lock.specs.CargoChecksums.{with_cargo_checksums_in}
use Rattle.cargo_lock_query.specs.Answers.{AreAnswers}
use Rattle.cargo_lock_query.specs.Lines.{AnswerData}
use Rattle.lists.specs.Places.{IsPlaces}
use Rattle.cargo_lock_query.specs.Spec.{SpecFits}
use Rattle.cargo_lock_query.specs.Tally.{AreGroupsOf, GroupData}
use Rattle.cargo_lock_parts.specs.Ascii.{newline}
use Rattle.cargo_lock_graph.specs.Edges.{GraphData}
use Rattle.cargo_lock_edges.specs.OwnGraph.{IsOwnGraph}
use Rattle.cargo_lock_json.specs.Document.{IsDocumentOf}
use Rattle.cargo_lock_encoding.specs.Lockfiles.{LockfileData}
use Rattle.cargo_lock_encoding.specs.Means.{TextMeans}
use Rattle.cargo_lock_query.specs.DuplicatesDocument.{groups_json}
use Rattle.cargo_lock_display.specs.File.{FileData}
use Rattle.printing.specs.Json.{IsJsonText}
use Rattle.cargo_lock_query.specs.WhyDocument.{answers_json}

-- the lockfile as a document has it, without a path
abbrev pub file_without_path : LockfileData → FileData
file_without_path l = record { path = None; format = l.version }

-- a text for which this holds, and a newline
abbrev pub IsLine : (List ℕ → Type 0) → List ℕ → Type 0
IsLine Holds bytes = (text : List ℕ) × Holds text × (bytes ≡ text ++ newline ∷ [])

-- ---- why

-- The bytes are the document of why packages of a graph are there: those that the specification
-- fits, which is one at least, each by a shortest chain or by one from each start that leads to it.
pub record IsWhyOf (l : LockfileData) (graph : GraphData) (spec : List ℕ) (is_each : Bool)
    (bytes : List ℕ) : Type 0 where
  pub nodes : List ℕ
  pub answers : List AnswerData
  pub fitting : IsPlaces (SpecFits spec l.packages) (length l.packages) nodes
  pub some : nodes ≢ []
  pub answered : AreAnswers is_each graph nodes answers
  pub printed : IsLine (IsJsonText (answers_json (file_without_path l) answers)) bytes

-- the text is that of a lockfile, and these bytes are that document of its graph, as dependencies
-- lead
abbrev pub IsWhyText : List ℕ → (spec : List ℕ) → (is_each : Bool) → List ℕ → Type 0
IsWhyText text spec is_each bytes = (l : LockfileData) × (graph : GraphData) × TextMeans text l
    × IsOwnGraph l.packages graph × IsWhyOf l graph spec is_each bytes

-- the text is that of a lockfile, and the specification fits none of its packages
abbrev pub FitsNone : List ℕ → (spec : List ℕ) → Type 0
FitsNone text spec = (l : LockfileData) × TextMeans text l
    × ((place : ℕ) → ¬ SpecFits spec l.packages place)

-- ---- duplicates

-- the bytes are the document of the names that several packages of a graph have
abbrev pub IsDuplicatesOf : LockfileData → GraphData → List ℕ → Type 0
IsDuplicatesOf l graph bytes = (groups : List GroupData) × AreGroupsOf graph groups
    × IsLine (IsJsonText (groups_json (file_without_path l) groups)) bytes

-- the text is that of a lockfile, and these bytes are that document of its graph, as dependencies
-- lead
abbrev pub IsDuplicatesText : List ℕ → List ℕ → Type 0
IsDuplicatesText text bytes = (l : LockfileData) × (graph : GraphData) × TextMeans text l
    × IsOwnGraph l.packages graph × IsDuplicatesOf l graph bytes

-- ---- lockfiles

-- the text is that of a lockfile, and these bytes are its document, with the checksums that Cargo
-- reads
abbrev pub IsLockfileText : List ℕ → List ℕ → Type 0
IsLockfileText text bytes = (l : LockfileData) × TextMeans text l
    × IsLine (IsDocumentOf None (with_cargo_checksums_in l)) bytes
