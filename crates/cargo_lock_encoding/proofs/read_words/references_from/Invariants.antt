use Rattle.std.proofs.Common.{◌≡◌, drop, map}
use Rattle.cargo_lock_parts.specs.Optional.{map_all}
use Rattle.cargo_lock_references.specs.Reference.{reference_of}
use Rattle.cargo_lock_references.proofs.Walk.{after}
use Rattle.cargo_lock_encoding.proofs.read_words.references_from.Given as goal

abbrev pub invariant-loop-word : goal.invariant-loop-word
invariant-loop-word l =
    after l.references.items (map_all reference_of (map (λ w. w.now) (drop l.word-index l.words)))
    ≡ map_all reference_of (map (λ w. w.now) l.words)
