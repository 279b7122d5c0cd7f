use Rattle.std.proofs.Common.{◌≡◌, rules, string_bytes}
use Rattle.cargo_lock_c.specs.Texts.{IsTranslation}
use Rattle.cargo_lock_c.proofs.HandedOut.{handed-answer}
use Rattle.cargo_lock_c.proofs.formats.cargo_lock_translate.Goals as goal

pub returns-in-Ok-clause-translation : goal.returns-in-Ok-clause-translation
returns-in-Ok-clause-translation c =
    let same : c.as_bytes.result.now ≡ string_bytes c.in-Ok.written = search rules in
    handed-answer (IsTranslation c.args.text.now c.args.format) c.as_bytes.result.now _ _ _ _ _
    (rw same c.in-Ok.ensures.ok) c.hand_out.ensures.handed
