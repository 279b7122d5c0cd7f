-- What `audit --why` prints: below each finding why its package is in the lockfile.
use Rattle.std.specs.Prelude.{◌≡◌, ◌++◌, [], ◌∷◌, ℕ, All, Bool, List, Option, None, Some, codes}
use Rattle.std.specs.Prelude.{false, map, position, true}
use Rattle.std.specs.Io.KnownBytes.{Appends}
use Rattle.std.specs.List.{flat_map}
use Rattle.cargo_lock_audit.specs.Findings.{AdvisoryFindingData}
use Rattle.cargo_lock_audit.specs.Lines.{advisory_finding_line, rest_of_report_text}
use Rattle.cargo_lock_audit.specs.Report.{ReportData}
use Rattle.cargo_lock_edges.specs.OwnGraph.{IsOwnGraph}
use Rattle.cargo_lock_graph.specs.Edges.{GraphData}
use Rattle.cargo_lock_parts.specs.Ascii.{newline}
use Rattle.cargo_lock_parts.specs.Identity.{PackageData}
use Rattle.cargo_lock_parts.specs.IdentityOrder.{is_same_package}
use Rattle.cargo_lock_query.specs.Chains.{IsShortestChain, IsUnreached}
use Rattle.cargo_lock_query.specs.Lines.{needer_line, needers_in}
use Rattle.cargo_lock_query.specs.Starts.{AreChainStarts}

-- a finding, and the packages of the chain that leads to its package, each of which needs the one
-- before it, if one leads there
pub record ReasonedData : Type 0 where
  pub finding : AdvisoryFindingData
  pub needers : Option (List PackageData)

-- the packages are those of the chain that `why` shows of the node, and there are none where it says
-- that nothing leads there
abbrev pub AreNeedersOf : GraphData → ℕ → List ℕ → Option (List PackageData) → Type 0
AreNeedersOf graph node starts None = IsUnreached graph starts node
AreNeedersOf graph node starts (Some needers) = (chain : List ℕ)
    × IsShortestChain graph starts node chain × (needers ≡ needers_in graph.packages chain)

-- the place of the first package that is the same as this one
abbrev pub first_like : List PackageData → PackageData → Option ℕ
first_like packages p = position (λ q. is_same_package q p) packages

-- the same of the node of a place, if there is one; else there is no chain
abbrev pub AreNeedersAt : GraphData → Option ℕ → Option (List PackageData) → Type 0
AreNeedersAt graph None needers = needers ≡ None
AreNeedersAt graph (Some node) needers = (starts : List ℕ) × AreChainStarts graph node starts
    × AreNeedersOf graph node starts needers

-- a finding has the packages of the chain to its package
abbrev pub IsReasoned : List PackageData → GraphData → ReasonedData → Type 0
IsReasoned packages graph r =
    AreNeedersAt graph (first_like packages r.finding.content) r.needers

-- ---- lines

-- the lines below a finding, each after a newline: those of `why` behind the first one
abbrev pub reason_lines : List PackageData → Option (List PackageData) → List ℕ
reason_lines list None = codes "\n  nothing leads to it"
reason_lines list (Some needers) = flat_map (needer_line list) needers

-- the line of a finding and the lines below it, with a newline
abbrev pub reasoned_lines : List PackageData → ReasonedData → List ℕ
reasoned_lines list r =
    advisory_finding_line r.finding ++ (reason_lines list r.needers ++ newline ∷ [])

-- these are the lines of a finding with why its package is there
abbrev pub IsReasonedAt : List PackageData → GraphData → List PackageData → AdvisoryFindingData
    → List ℕ → Type 0
IsReasonedAt packages graph list finding lines = (r : ReasonedData) × (r.finding ≡ finding)
    × IsReasoned packages graph r × (lines ≡ reasoned_lines list r)

-- the text has these lines of each of these findings
abbrev pub IsReasonedText : List PackageData → GraphData → List AdvisoryFindingData → List ℕ → Type 0
IsReasonedText packages graph findings text = (reasoned : List ReasonedData)
    × (map (λ r. r.finding) reasoned ≡ findings) × All (IsReasoned packages graph) reasoned
    × (text ≡ flat_map (reasoned_lines graph.packages) reasoned)

-- the lines of a report behind those of its findings, if it is whole
abbrev pub rest_if : (is_whole : Bool) → ReportData → List ℕ
rest_if true told = rest_of_report_text told
rest_if false told = []

-- a report on packages, or only its findings, is printed, and below each finding why its package is
-- among them
abbrev pub PrintsReasoned : List PackageData → ReportData → (is_whole : Bool) → Option (List ℕ)
    → Option (List ℕ) → Type 0
PrintsReasoned packages told is_whole old new = (graph : GraphData) × (text : List ℕ)
    × IsOwnGraph packages graph × IsReasonedText packages graph told.findings text
    × Appends old new (text ++ rest_if is_whole told)
