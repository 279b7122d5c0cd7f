use Rattle.std.proofs.Common.{◌≡◌, take}
use Rattle.cargo_lock_merge_core.specs.Lists.{all_numbered}
use Rattle.cargo_lock_merge_core.specs.Numbered.{all_data}
use Rattle.cargo_lock_merge_core.proofs.numbered.placed.Given as goal

-- the packages so far
abbrev pub invariant-loop-one : goal.invariant-loop-one
invariant-loop-one l = all_data l.all.items ≡ all_numbered (take l.one-index l.list)
