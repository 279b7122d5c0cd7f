-- What is said of why packages are there, and its text.
use Rattle.std.specs.Prelude.{◌≡◌, ◌⊎◌, ℕ, Bool, true, false, List, [], ◌∷◌, ◌++◌, Some, map}
use Rattle.std.specs.Prelude.{slice_get}
use Rattle.std.specs.List.{flat_map}
use Rattle.cargo_lock_parts.specs.Ascii.{newline}
use Rattle.cargo_lock_parts.specs.Identity.{PackageData}
use Rattle.cargo_lock_graph.specs.Edges.{GraphData}
use Rattle.cargo_lock_query.specs.Chains.{AreChainsOfEach, IsShortestChain, IsUnreached}
use Rattle.cargo_lock_query.specs.Lines.{AnswerData, Needed, Nothing, answer_lines, needers_in}
use Rattle.cargo_lock_query.specs.Starts.{AreChainStarts}

-- the chains that are shown of a node: the shortest one, if any leads to the node, or a shortest
-- one from each start that leads to it
abbrev pub AreChosen : (is_each : Bool) → GraphData → ℕ → List ℕ → List (List ℕ) → Type 0
AreChosen true graph to starts chains = AreChainsOfEach graph to starts chains
AreChosen false graph to starts chains = (IsUnreached graph starts to × (chains ≡ []))
    ⊎ ((chain : List ℕ) × IsShortestChain graph starts to chain × (chains ≡ chain ∷ []))

-- the answer about a package by a chain to it
abbrev pub needed_by : List PackageData → PackageData → List ℕ → AnswerData
needed_by packages p chain = Needed p (needers_in packages chain)

-- the answers about a package by the chains to it: one for each, or, if there is none, that nothing
-- leads to the package
abbrev pub answers_by : List PackageData → PackageData → List (List ℕ) → List AnswerData
answers_by packages p [] = Nothing p ∷ []
answers_by packages p (chain ∷ chains) = map (needed_by packages p) (chain ∷ chains)

-- the answers about a node: its chains begin where `AreChainStarts` says
pub record AreAnswersAbout (is_each : Bool) (graph : GraphData) (to : ℕ)
    (answers : List AnswerData) : Type 0 where
  pub starts : List ℕ
  pub chains : List (List ℕ)
  pub asked : PackageData
  pub from : AreChainStarts graph to starts
  pub chosen : AreChosen is_each graph to starts chains
  pub at : slice_get graph.packages to ≡ Some asked
  pub said : answers ≡ answers_by graph.packages asked chains

-- the answers about some nodes, in their order
abbrev pub AreAnswers : (is_each : Bool) → GraphData → List ℕ → List AnswerData → Type 0
AreAnswers is_each graph [] answers = answers ≡ []
AreAnswers is_each graph (to ∷ others) answers = (own : List AnswerData)
    × (rest : List AnswerData) × AreAnswersAbout is_each graph to own
    × AreAnswers is_each graph others rest × (answers ≡ own ++ rest)

-- ---- text

-- the lines of an answer about a package of a list, each with its newline
abbrev pub answer_text : List PackageData → AnswerData → List ℕ
answer_text list answer = answer_lines list answer ++ newline ∷ []

-- the answers, with an empty line between two
abbrev pub answers_text : List PackageData → List AnswerData → List ℕ
answers_text list [] = []
answers_text list (answer ∷ others) =
    answer_text list answer ++ flat_map (λ other. newline ∷ answer_text list other) others
