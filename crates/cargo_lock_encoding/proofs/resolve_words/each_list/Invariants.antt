use Rattle.std.proofs.Common.{◌≡◌, drop, map}
use Rattle.cargo_lock_parts.specs.Identity.{identity_of}
use Rattle.cargo_lock_parts.specs.Optional.{map_all}
use Rattle.cargo_lock_references.proofs.Walk.{after}
use Rattle.cargo_lock_encoding.specs.ResolvedWords.{resolved_words}
use Rattle.cargo_lock_encoding.proofs.resolve_words.each_list.Given as goal

abbrev pub invariant-loop-package : goal.invariant-loop-package
invariant-loop-package l =
    after (map (λ list. list.items) l.lists.items) (map_all (resolved_words (map identity_of l.list)) (drop l.package-index l.words))
    ≡ map_all (resolved_words (map identity_of l.list)) l.words
