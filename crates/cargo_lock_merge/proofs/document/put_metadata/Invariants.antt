use Rattle.std.proofs.Common.{◌≡◌, ◌++◌, map}
use Rattle.cargo_lock_merge.specs.Document.{conflict_of_metadata, item_data}
use Rattle.cargo_lock_merge.proofs.document.put_metadata.Given as goal

-- the items so far
abbrev pub invariant-loop-key : goal.invariant-loop-key
invariant-loop-key l = map item_data l.items.items ≡ map item_data l.initial.items.items
    ++ map (λ e. conflict_of_metadata e.0.now e.1.now) l.yielded
