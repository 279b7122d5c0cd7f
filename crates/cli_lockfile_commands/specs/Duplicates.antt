-- What `duplicates` prints, and its status.
use Rattle.std.specs.Prelude.{◌≡◌, ◌≢◌, ℕ, List, [], Option, codes}
use Rattle.clap.specs.declared.parser.matches.Found.{Found}
use Rattle.cargo_lock_query.specs.Tally.{AreGroupsOf, GroupData, listing_text}
use Rattle.cargo_lock_encoding.specs.Lockfiles.{LockfileData}
use Rattle.cargo_lock_graph.specs.Edges.{GraphData}
use Rattle.cargo_lock.specs.Loads.{IsMeant}
use Rattle.cargo_lock_query.specs.DuplicatesDocument.{groups_json}
use Rattle.cargo_lock_display.specs.File.{FileData}
use Rattle.cli_input.specs.Json.{IsAsked, IsUnasked, PrintsAnswer, named_file_of}
use Rattle.cargo_lock_edges.specs.OwnGraph.{IsOwnGraph}

-- the status is a failure exactly if there is a name of several packages and the arguments ask for
-- that, and otherwise a success
pub record IsGroupsStatus (found : Found) (groups : List GroupData)
    (failure success : Type 0) : Type 0 where
  pub asked : IsAsked found (codes "exit-code") → groups ≢ [] → failure
  pub unasked : IsUnasked found (codes "exit-code") → success
  pub none : groups ≡ [] → success

-- the names that several packages of a graph have are printed, and the status is theirs
abbrev pub PrintsNames : Found → FileData → GraphData → Option (List ℕ) → Option (List ℕ) → Type 0
    → Type 0 → Type 0
PrintsNames found file graph old new failure success = (groups : List GroupData)
    × AreGroupsOf graph groups
    × PrintsAnswer found (groups_json file groups) (listing_text groups) old new
    × IsGroupsStatus found groups failure success

-- the same for the graph of a lockfile that some text means
abbrev pub PrintsDuplicates : Found → Option (List ℕ) → Option (List ℕ) → Type 0 → Type 0 → Type 0
PrintsDuplicates found old new failure success = (l : LockfileData) × (graph : GraphData)
    × IsMeant l × IsOwnGraph l.packages graph
    × PrintsNames found (named_file_of found (codes "file") l) graph old new failure success
