-- The exit status of the program if it reports an error.
use Rattle.std.specs.Prelude.{◌≡◌, ℕ, Bool, IsTrue, List, [], ◌∷◌, bytes_eq, codes, false}
use Rattle.std.specs.Prelude.{if◌then◌else◌}
use Rattle.std.specs.List.{list_any}
use Rattle.std.specs.Process.{exit_status}
use Rattle.std.specs.declared.process.ExitCode.{ExitCode}

-- the names of the commands that the original does not have
abbrev pub own_commands : List (List ℕ)
own_commands = codes "audit" ∷ codes "bom" ∷ codes "check" ∷ codes "diff" ∷ codes "duplicates"
    ∷ codes "graph" ∷ codes "json" ∷ codes "licenses" ∷ codes "merge" ∷ codes "verify"
    ∷ codes "why" ∷ []

-- the arguments without a leading `lock`, which cargo passes
abbrev pub without_lock : List (List ℕ) → List (List ℕ)
without_lock [] = []
without_lock (word ∷ rest) = if bytes_eq word (codes "lock") then rest else word ∷ rest

-- the first of the arguments is this name
abbrev pub begin_with : List ℕ → List (List ℕ) → Bool
begin_with name [] = false
begin_with name (word ∷ rest) = bytes_eq word name

-- the arguments name this command
abbrev pub IsCommandNamed : List ℕ → List (List ℕ) → Type 0
IsCommandNamed name words = IsTrue (begin_with name (without_lock words))

-- the first of the arguments is the name of such a command
abbrev pub begin_with_own : List (List ℕ) → Bool
begin_with_own [] = false
begin_with_own (word ∷ rest) = list_any (bytes_eq word) own_commands

-- The status is 2 if the arguments name a command that the original does not have, as for `diff`
-- and `grep`, and otherwise 1, as in the original.
abbrev pub IsFaultStatus : List (List ℕ) → ExitCode → Type 0
IsFaultStatus words status =
    exit_status status ≡ (if begin_with_own (without_lock words) then 2 else 1)
