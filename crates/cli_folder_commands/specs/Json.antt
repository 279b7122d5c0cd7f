-- What `json` prints.
use Rattle.std.specs.Prelude.{ℕ, List, Option, codes}
use Rattle.clap.specs.declared.parser.matches.Found.{Found}
use Rattle.cargo_lock_json.specs.Document.{IsDocumentOf}
use Rattle.cargo_lock_encoding.specs.Lockfiles.{LockfileData}
use Rattle.cli_input.specs.Json.{PrintsLine, document_path}
use Rattle.cli_input.specs.Load.{IsMeantWithCargoChecksums}
use Rattle.cli_support.specs.Input.{given_path_in}

-- the document of a lockfile that some text means, with the checksums that Cargo reads and the path
-- of the option `file`, is printed in one line
abbrev pub PrintsLockfile : Found → Option (List ℕ) → Option (List ℕ) → Type 0
PrintsLockfile found old new = (l : LockfileData) × IsMeantWithCargoChecksums l
    × PrintsLine (IsDocumentOf (document_path (given_path_in found (codes "file"))) l) old new
