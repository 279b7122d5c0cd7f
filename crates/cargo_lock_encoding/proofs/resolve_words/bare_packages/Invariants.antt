use Rattle.std.proofs.Common.{◌≡◌, drop}
use Rattle.cargo_lock_parts.specs.Optional.{map_all}
use Rattle.cargo_lock_references.proofs.Walk.{after}
use Rattle.cargo_lock_encoding.specs.ResolvedWords.{bare_package}
use Rattle.cargo_lock_encoding.proofs.resolve_words.bare_packages.Given as goal

abbrev pub invariant-loop-package : goal.invariant-loop-package
invariant-loop-package l =
    after l.packages.items (map_all bare_package (drop l.package-index l.words))
    ≡ map_all bare_package l.words
