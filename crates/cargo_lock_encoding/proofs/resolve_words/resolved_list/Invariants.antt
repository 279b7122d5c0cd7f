use Rattle.std.proofs.Common.{◌≡◌, drop, map}
use Rattle.cargo_lock_parts.specs.Identity.{identity_of}
use Rattle.cargo_lock_parts.specs.Optional.{map_all}
use Rattle.cargo_lock_references.proofs.Walk.{after}
use Rattle.cargo_lock_encoding.specs.ResolvedWords.{resolved_word}
use Rattle.cargo_lock_encoding.proofs.resolve_words.resolved_list.Given as goal

abbrev pub invariant-loop-word : goal.invariant-loop-word
invariant-loop-word l =
    after l.dependencies.items (map_all (resolved_word (map identity_of l.list)) (map (λ w. w.now) (drop l.word-index l.words)))
    ≡ map_all (resolved_word (map identity_of l.list)) (map (λ w. w.now) l.words)
