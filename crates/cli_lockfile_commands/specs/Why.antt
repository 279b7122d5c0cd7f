-- What `why` prints.
use Rattle.std.specs.Prelude.{◌≢◌, ℕ, Bool, List, [], Option, codes, length, unwrap_or}
use Rattle.clap.specs.Matches.{first_value}
use Rattle.clap.specs.declared.parser.matches.Found.{Found}
use Rattle.cargo_lock_query.specs.Answers.{AreAnswers, answers_text}
use Rattle.cargo_lock_query.specs.Lines.{AnswerData}
use Rattle.lists.specs.Places.{IsPlaces}
use Rattle.cargo_lock_encoding.specs.Lockfiles.{LockfileData}
use Rattle.cargo_lock_graph.specs.Edges.{GraphData}
use Rattle.cargo_lock.specs.Loads.{IsMeant}
use Rattle.cargo_lock_display.specs.File.{FileData}
use Rattle.cargo_lock_query.specs.WhyDocument.{answers_json}
use Rattle.cli_input.specs.Json.{IsFlag, PrintsAnswer, named_file_of}
use Rattle.cargo_lock_query.specs.Spec.{SpecFits}
use Rattle.cargo_lock_edges.specs.OwnGraph.{IsOwnGraph}

-- the specification of a package
abbrev pub given_spec : Found → List ℕ
given_spec found = unwrap_or (first_value found (codes "spec")) []

-- The answers are those that the arguments ask for: about each package that the specification fits,
-- which is one at least, and from each start exactly if they ask for that.
pub record AreAsked (found : Found) (graph : GraphData) (answers : List AnswerData) : Type 0 where
  pub nodes : List ℕ
  pub is_each : Bool
  pub fitting : IsPlaces (SpecFits (given_spec found) graph.packages) (length graph.packages) nodes
  pub some : nodes ≢ []
  pub each : IsFlag found (codes "all") is_each
  pub answered : AreAnswers is_each graph nodes answers

-- the answers that the arguments ask for are printed
abbrev pub PrintsAsked : Found → FileData → GraphData → Option (List ℕ) → Option (List ℕ) → Type 0
PrintsAsked found file graph old new = (answers : List AnswerData)
    × AreAsked found graph answers
    × PrintsAnswer found (answers_json file answers) (answers_text graph.packages answers) old new

-- the same for the graph of a lockfile that some text means
abbrev pub PrintsWhy : Found → Option (List ℕ) → Option (List ℕ) → Type 0
PrintsWhy found old new = (l : LockfileData) × (graph : GraphData) × IsMeant l
    × IsOwnGraph l.packages graph
    × PrintsAsked found (named_file_of found (codes "file") l) graph old new
