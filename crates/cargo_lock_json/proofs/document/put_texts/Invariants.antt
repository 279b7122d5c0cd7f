use Rattle.std.proofs.Common.{◌≡◌, ◌∷◌}
use Rattle.json.specs.Token.{begin_object}
use Rattle.json.specs.Tree.{members_tokens}
use Rattle.printing.specs.Json.{extended}
use Rattle.cargo_lock_json.specs.Document.{texts_members}
use Rattle.cargo_lock_json.proofs.document.put_texts.Given as goal

-- the texts so far are written, and those to come would complete the object
abbrev pub invariant-loop-key : goal.invariant-loop-key
invariant-loop-key l =
    (goal.iterator-loop-key).can_next l.key-iterator
    × (goal.iterator-loop-key).is_finite l.key-iterator
    × (extended l.out (members_tokens (texts_members l.key-iterator))
    ≡ extended l.fn.out (begin_object ∷ members_tokens (texts_members l.metadata.entries)))
