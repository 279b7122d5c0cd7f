use Rattle.std.proofs.Common.{◌≡◌, rules, string_bytes}
use Rattle.cargo_lock_c.specs.Documents.{IsLockfileText}
use Rattle.cargo_lock_c.proofs.HandedOut.{handed-answer}
use Rattle.cargo_lock_c.proofs.json.cargo_lock_json.Goals as goal

pub returns-in-Ok-clause-document : goal.returns-in-Ok-clause-document
returns-in-Ok-clause-document c =
    let same : c.as_bytes.result.now ≡ string_bytes c.in-Ok.document = search rules in
    handed-answer (IsLockfileText c.args.text.now) c.as_bytes.result.now _ _ _ _ _
    (rw same c.in-Ok.ensures.ok) c.hand_out.ensures.handed
