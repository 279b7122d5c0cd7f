use Rattle.std.proofs.Common.{◌≡◌, ◌++◌, map, take}
use Rattle.cargo_lock_verify.specs.Entries.{entry_findings, vendored_entry}
use Rattle.cargo_lock_verify.specs.Vendored.{folder_finding_of, vendored_of}
use Rattle.cargo_lock_verify.proofs.entry.put_entries.Given as goal

-- what is wrong with the entries so far is added
abbrev pub invariant-loop-entry : goal.invariant-loop-entry
invariant-loop-entry l = map folder_finding_of l.found.items
    ≡ map folder_finding_of l.initial.found.items ++ entry_findings l.others (map vendored_of l.vendored) (map vendored_entry (take l.entry-index l.entries))
