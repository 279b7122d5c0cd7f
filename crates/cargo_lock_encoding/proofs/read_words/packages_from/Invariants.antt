use Rattle.std.proofs.Common.{◌≡◌, drop}
use Rattle.cargo_lock_parts.specs.Optional.{map_all}
use Rattle.cargo_lock_references.proofs.Walk.{after}
use Rattle.cargo_lock_encoding.specs.WordsReading.{package_from}
use Rattle.cargo_lock_encoding.proofs.read_words.packages_from.Given as goal

abbrev pub invariant-loop-package : goal.invariant-loop-package
invariant-loop-package l =
    after l.packages.items (map_all package_from (drop l.package-index l.words))
    ≡ map_all package_from l.words
