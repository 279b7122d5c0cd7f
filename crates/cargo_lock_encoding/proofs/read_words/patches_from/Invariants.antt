use Rattle.std.proofs.Common.{◌≡◌, drop}
use Rattle.cargo_lock_parts.specs.Optional.{map_all}
use Rattle.cargo_lock_references.proofs.Walk.{after}
use Rattle.cargo_lock_encoding.specs.WordsReading.{identity_from}
use Rattle.cargo_lock_encoding.proofs.read_words.patches_from.Given as goal

abbrev pub invariant-loop-patch : goal.invariant-loop-patch
invariant-loop-patch l =
    after l.patches.items (map_all identity_from (drop l.patch-index l.words))
    ≡ map_all identity_from l.words
