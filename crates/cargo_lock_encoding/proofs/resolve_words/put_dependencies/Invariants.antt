use Rattle.std.proofs.Common.{◌≡◌, ◌++◌, drop, map, take}
use Rattle.cargo_lock_encoding.specs.ResolvedWords.{each_with}
use Rattle.cargo_lock_encoding.proofs.resolve_words.put_dependencies.Given as goal

abbrev pub invariant-loop-package : goal.invariant-loop-package
invariant-loop-package l =
    (l.packages
    ≡ take l.package-index (each_with (map (λ list. list.items) l.fn.lists.items) l.fn.packages)
    ++ drop l.package-index l.fn.packages)
    × (l.lists.rest.items ≡ drop l.package-index l.fn.lists.items)
