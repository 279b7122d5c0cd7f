use Rattle.std.proofs.Common.{◌≡◌, ◌++◌, map, string_bytes, take}
use Rattle.cargo_lock_verify.specs.Vendored.{Link, folder_finding_of}
use Rattle.cargo_lock_verify.proofs.vendored.put_links.Given as goal

-- the links so far are added
abbrev pub invariant-loop-path : goal.invariant-loop-path
invariant-loop-path l = map folder_finding_of l.found.items
    ≡ map folder_finding_of l.initial.found.items ++ map (λ p. Link l.package l.folder (string_bytes p)) (take l.path-index l.folder.links.items)
