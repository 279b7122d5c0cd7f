use Rattle.std.proofs.Common.{◌≡◌, ◌++◌, map}
use Rattle.std.specs.List.{flat_map}
use Rattle.cargo_lock_verify.specs.Vendored.{folder_finding_of, listed_found, listed_of, of_listed}
use Rattle.cargo_lock_verify.proofs.vendored.put_listed.Given as goal

-- what is added so far, and what is wrong with the files that are left, is what is wrong with all
abbrev pub invariant-loop-path : goal.invariant-loop-path
invariant-loop-path l =
    (goal.iterator-loop-path).can_next l.path-iterator
    × (goal.iterator-loop-path).is_finite l.path-iterator
    × (map folder_finding_of l.found.items ++ flat_map (of_listed l.package l.folder) (map (λ e. listed_of e.0 e.1) l.path-iterator)
    ≡ map folder_finding_of l.fn.found.items ++ listed_found l.package l.folder)
