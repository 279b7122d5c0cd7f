use Rattle.std.proofs.Common.{◌≡◌, ◌≢◌, [], rules, string_bytes}
use Rattle.cargo_lock_c.specs.Texts.{MeansNothing}
use Rattle.cargo_lock_c.proofs.HandedOut.{handed-answer}
use Rattle.cargo_lock_c.proofs.reading.cargo_lock_fault.Goals as goal

pub returns-in-Ok-clause-words : goal.returns-in-Ok-clause-words
returns-in-Ok-clause-words c =
    let same : c.as_bytes.result.now ≡ string_bytes c.in-Ok.words = search rules in
    handed-answer (λ words. words ≢ [] → MeansNothing c.args.text.now) c.as_bytes.result.now _ _ _ _ _
    (rw same c.in-Ok.ensures.ok) c.hand_out.ensures.handed
