use Rattle.std.proofs.Common.{◌≡◌, rules, string_bytes}
use Rattle.cargo_lock_c.specs.Texts.{MeansNothing}
use Rattle.cargo_lock_c.proofs.Refusals.{if_ok-follows, refused-words}
use Rattle.cargo_lock_c.proofs.reading.fault_words.Goals as goal

pub returns-clause-ok : goal.returns-clause-ok
returns-clause-ok c =
    let same : c.in-Ok.text.now ≡ c.args.bytes.now = search rules in
    if_ok-follows _ _ c.words_of.result
    (λ words said _. rw (← same) (refused-words (MeansNothing c.in-Ok.text.now) c.in-Err.fault (string_bytes words) said c.in-Err.ensures))
    c.words_of.ensures.ok
