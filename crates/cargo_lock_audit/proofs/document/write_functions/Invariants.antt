use Rattle.std.proofs.Common.{◌≡◌, ◌∷◌, drop}
use Rattle.json.specs.Token.{begin_object}
use Rattle.json.specs.Tree.{members_tokens}
use Rattle.printing.specs.Json.{extended}
use Rattle.cargo_lock_audit.specs.Document.{functions_members}
use Rattle.cargo_lock_audit.proofs.document.write_functions.Given as goal

-- the functions so far are written, and those to come would complete the object
abbrev pub invariant-loop-function : goal.invariant-loop-function
invariant-loop-function l =
    extended l.out (members_tokens (functions_members (drop l.function-index l.functions)))
    ≡ extended l.fn.out (begin_object ∷ members_tokens (functions_members l.functions))
