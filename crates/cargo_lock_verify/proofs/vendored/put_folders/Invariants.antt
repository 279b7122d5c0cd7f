use Rattle.std.proofs.Common.{◌≡◌, ◌++◌, map, take}
use Rattle.cargo_lock_verify.specs.Vendored.{each_found, folder_finding_of}
use Rattle.cargo_lock_verify.proofs.vendored.put_folders.Given as goal

-- what is wrong with the folders so far is added
abbrev pub invariant-loop-folder : goal.invariant-loop-folder
invariant-loop-folder l = map folder_finding_of l.found.items
    ≡ map folder_finding_of l.initial.found.items ++ each_found l.package (take l.folder-index l.folders)
