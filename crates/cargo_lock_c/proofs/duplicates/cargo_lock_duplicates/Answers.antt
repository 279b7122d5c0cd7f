use Rattle.std.proofs.Common.{◌≡◌, ◌∙◌, rules, string_bytes, sym}
use Rattle.cargo_lock_c.specs.Documents.{IsDuplicatesText}
use Rattle.cargo_lock_c.proofs.HandedOut.{handed-answer}
use Rattle.cargo_lock_c.proofs.duplicates.cargo_lock_duplicates.Goals as goal

pub returns-in-Ok-clause-duplicates : goal.returns-in-Ok-clause-duplicates
returns-in-Ok-clause-duplicates c =
    let same : c.as_bytes.result.now ≡ string_bytes c.in-Ok.names = search rules in
    handed-answer (IsDuplicatesText c.args.text.now) c.as_bytes.result.now _ _ _ _ _
    (rw same c.in-Ok.ensures.ok) c.hand_out.ensures.handed

pub returns-in-Err-clause-unresolved : goal.returns-in-Err-clause-unresolved
returns-in-Err-clause-unresolved c = λ seven. c.in-Err.ensures.unresolved (sym c.status.ensures ∙ seven)
