use Rattle.std.proofs.Common.{◌∙◌, ◌∷◌, List, ap, codes, option_map, string_bytes, sym, ℕ}
use Rattle.json.specs.Token.{key}
use Rattle.json.specs.Tree.{json_tokens}
use Rattle.printing.proofs.Behind.{then}
use Rattle.printing.proofs.Drafts.{as_tokens}
use Rattle.cargo_lock_report.specs.Log.{message_json, title_tokens}
use Rattle.cargo_lock_report.proofs.log.put_title.Goals as goal

pub returns-in_ok-key-in-Some : goal.returns-in_ok-key-in-Some
returns-in_ok-key-in-Some c =
    as_tokens (ap (λ (t : List ℕ). key (codes "shortDescription") ∷ json_tokens (message_json t)) c.deref.ensures
    ∙ ap (λ title. title_tokens (option_map string_bytes title)) (sym c.in-Some.is))
    (then c.in_ok-key-in-Some.ensures c.put_message.ensures)
