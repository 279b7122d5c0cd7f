use Rattle.std.proofs.Common.{◌≡◌, ◌++◌, map, take}
use Rattle.cargo_lock_merge.specs.Document.{conflict_data, item_data}
use Rattle.cargo_lock_merge.proofs.document.put_packages.Given as goal

-- the items so far
abbrev pub invariant-loop-one : goal.invariant-loop-one
invariant-loop-one l = map item_data l.items.items
    ≡ map item_data l.initial.items.items ++ map conflict_data (take l.one-index l.conflicts)
