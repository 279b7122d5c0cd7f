-- What each command leaves in the writer that stands for standard output, and its status.
use Rattle.std.specs.Prelude.{◌≡◌, ◌⊎◌, ℕ, List, Option, Some, codes}
use Rattle.clap.specs.Simple.{subcommand_rows_of}
use Rattle.clap.specs.Walk.{rows_of}
use Rattle.clap.specs.declared.parser.matches.ArgMatches.{ArgMatches}
use Rattle.clap.specs.declared.parser.matches.Found.{Found}
use Rattle.cli.specs.declared.Chosen.{Chosen}
use Rattle.cli.specs.declared.Chosen.TheVariants.{Audit, Bom, Check, Diff, Duplicates, Graph}
use Rattle.cli.specs.declared.Chosen.TheVariants.{Json, Licenses, List as Listing, Merge}
use Rattle.cli.specs.declared.Chosen.TheVariants.{Translate, Tree, Verify, Why}
use Rattle.cli_folder_commands.specs.Audit.{PrintsAudit}
use Rattle.cli_folder_commands.specs.Bom.{PrintsBill}
use Rattle.cli.specs.Check.{IsFindingsStatus, PrintsCheck}
use Rattle.cli_lockfile_commands.specs.Diff.{PrintsDifference}
use Rattle.cli_lockfile_commands.specs.Duplicates.{PrintsDuplicates}
use Rattle.cli_lockfile_commands.specs.Graph.{DrawsGraph}
use Rattle.cli_folder_commands.specs.Json.{PrintsLockfile}
use Rattle.cli_folder_commands.specs.Licenses.{PrintsLicenses}
use Rattle.cli_folder_commands.specs.declared.licenses.Counts.{Counts}
use Rattle.cli_lockfile_commands.specs.List.{PrintsList}
use Rattle.cli.specs.Merge.{PrintsMerge}
use Rattle.cli_lockfile_commands.specs.Translate.{PrintsTranslation}
use Rattle.cli_lockfile_commands.specs.Tree.{PrintsTrees}
use Rattle.cli_folder_commands.specs.Verify.{PrintsVerified}
use Rattle.cli_lockfile_commands.specs.Why.{PrintsWhy}
use Rattle.cli_support.specs.Status.{IsCommandNamed}

-- the name of a command
abbrev pub name_of : Chosen → List ℕ
name_of Audit = codes "audit"
name_of Bom = codes "bom"
name_of Check = codes "check"
name_of Diff = codes "diff"
name_of Duplicates = codes "duplicates"
name_of Graph = codes "graph"
name_of Json = codes "json"
name_of Licenses = codes "licenses"
name_of Listing = codes "list"
name_of Merge = codes "merge"
name_of Translate = codes "translate"
name_of Tree = codes "tree"
name_of Verify = codes "verify"
name_of Why = codes "why"

-- what a command leaves with the options that were found, and its status: `audit`, `check`, `diff`,
-- `duplicates`, `licenses`, `merge` and `verify` may end with failure if they found something, `check`
-- with that of a fault if it did not read each of several lockfiles, `merge` with that if its document
-- says why there is no merge, and each other one ends with success
abbrev pub Follows : Chosen → Found → Option (List ℕ) → Option (List ℕ) → Type 0 → Type 0 → Type 0
    → Type 0
Follows Audit found old new failure success fault = PrintsAudit found old new failure success
Follows Bom found old new failure success fault = PrintsBill found old new × success
Follows Check found old new failure success fault = (counts : List ℕ)
    × PrintsCheck found counts old new failure success fault
Follows Diff found old new failure success fault = PrintsDifference found old new failure success
Follows Duplicates found old new failure success fault = PrintsDuplicates found old new failure success
Follows Graph found old new failure success fault = DrawsGraph found old new × success
Follows Json found old new failure success fault = PrintsLockfile found old new × success
Follows Licenses found old new failure success fault = (counts : Counts)
    × PrintsLicenses found old new counts × IsFindingsStatus counts.findings failure success
Follows Listing found old new failure success fault = PrintsList found old new × success
Follows Merge found old new failure success fault = PrintsMerge found old new failure success fault
Follows Translate found old new failure success fault = PrintsTranslation found old new × success
Follows Tree found old new failure success fault = PrintsTrees found old new × success
Follows Verify found old new failure success fault = PrintsVerified found old new failure success
Follows Why found old new failure success fault = PrintsWhy found old new × success

-- the arguments name a command that counts what it found, on standard error
abbrev pub IsCounting : List (List ℕ) → Type 0
IsCounting words = IsCommandNamed (codes "check") words ⊎ IsCommandNamed (codes "licenses") words

-- the arguments name a command that may print its output and faults
abbrev pub IsFailing : List (List ℕ) → Type 0
IsFailing words = IsCommandNamed (codes "check") words ⊎ IsCommandNamed (codes "merge") words

-- the arguments name one of the commands that may write to standard error without a fault
abbrev pub TellsMore : List (List ℕ) → Type 0
TellsMore words = IsCommandNamed (codes "merge") words ⊎ IsCounting words

-- a command is followed whose name and options the parse found
pub record FollowsMatches (m : ArgMatches) (old new : Option (List ℕ))
    (failure success fault : Type 0) : Type 0 where
  pub command : Chosen
  pub found : Found
  pub named : subcommand_rows_of m ≡ Some (name_of command, rows_of found)
  pub follows : Follows command found old new failure success fault
