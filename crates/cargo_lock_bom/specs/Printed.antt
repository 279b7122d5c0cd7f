-- The bill of materials of the packages of a lockfile, as the program prints it.
use Rattle.std.specs.Prelude.{◌≡◌, ◌⊎◌, ℕ, Bool, List, [], ◌∷◌, ◌++◌, cond, length, Option}
use Rattle.std.specs.Prelude.{option_map, option_to_list}
use Rattle.json.specs.Layout.{pretty}
use Rattle.json.specs.Print.{print}
use Rattle.cargo_lock_parts.specs.declared.error.Error.{Error}
use Rattle.cargo_lock_parts.specs.Ascii.{newline}
use Rattle.cargo_lock_parts.specs.Identity.{PackageData}
use Rattle.cargo_lock_graph.specs.Edges.{GraphData}
use Rattle.cargo_lock_graph.specs.Targets.{IsUnresolved, links}
use Rattle.cargo_lock_edges.specs.OwnGraph.{IsOwnGraph}
use Rattle.cargo_lock_bom.specs.Document.{IsLaidOut, ReadsAsBill}
use Rattle.cargo_lock_bom.specs.Options.{OptionsData, within}
use Rattle.cargo_lock_bom.specs.References.{IsRepeatedFault}

-- the packages of a bill: those of a lockfile, followed by its root if that is separate from them
abbrev pub bill_packages : List PackageData → Option PackageData → List PackageData
bill_packages packages root = packages ++ option_to_list root

-- the node of such a root
abbrev pub own_root : List PackageData → Option PackageData → Option ℕ
own_root packages root = option_map (λ p. length packages) root

-- The line is a text that reads as the bill of the graph of packages, as their dependencies lead, and
-- a newline. The text is in one line if it is compact, and otherwise laid out in lines.
pub record IsPrintedBill (packages : List PackageData) (options : OptionsData) (compact : Bool)
    (line : List ℕ) : Type 0 where
  pub graph : GraphData
  pub text : List ℕ
  pub is_graph : IsOwnGraph packages graph
  pub reads : ReadsAsBill graph (within graph options) text
  pub layout : IsLaidOut (cond compact print pretty) text
  pub ended : line ≡ text ++ newline ∷ []

-- why the bill of packages is not printed: no package matches some dependency, the same text refers
-- to two packages, or memory ran out
abbrev pub IsUnprinted : List PackageData → Error → Type 0
IsUnprinted packages e = IsUnresolved packages (links packages) e ⊎ IsRepeatedFault packages e
