use Rattle.std.proofs.Common.{ap, arith, length, ℕ, ◌∙◌}
use Rattle.std.proofs.lemmas.List.{length-append}
use Rattle.std.specs.Str.Iter.{split_whitespace_rest}
use Rattle.cargo_lock_references.specs.Words.{text_words}
use Rattle.cargo_lock_references.proofs.WordLemmas.{words-step, words-none}
use Rattle.cargo_lock_references.proofs.reference.next_word.Goals as goal

pub returns-in-Some-clause-words : goal.returns-in-Some-clause-words
returns-in-Some-clause-words c =
    let s = c.in-Some.ensures.steps in
    words-step _ s.0 _ _ _ s.1 s.2 (rw c.as_bytes-text.ensures.value at c.as_bytes-text.ensures.utf8) s.3 s.4 s.5.1

pub returns-in-Some-clause-shorter : goal.returns-in-Some-clause-shorter
returns-in-Some-clause-shorter c =
    let s = c.in-Some.ensures.steps in
    omega (arith, ap length s.1, length-append {A = ℕ})

pub returns-in-None-clause-words : goal.returns-in-None-clause-words
returns-in-None-clause-words c =
    let s = c.in-None.ensures.steps in
    (words-none _ s.1, ap (λ w. text_words (split_whitespace_rest w)) s.0 ∙ words-none _ s.1)
