use Rattle.std.proofs.Common.{◌≡◌, ◌+◌, ◌++◌, drop, map}
use Rattle.toml.specs.View.{items_view}
use Rattle.cargo_lock_table_flaws.specs.Finding.{table_finding_of}
use Rattle.cargo_lock_table_flaws.specs.Unread.{unread_unused, unread_numbered}
use Rattle.cargo_lock_table_flaws.proofs.unread.put_unused.Given as goal

abbrev pub invariant-loop-place : goal.invariant-loop-place
invariant-loop-place l =
    map table_finding_of l.found.items ++ unread_numbered unread_unused (l.place + 1) (items_view (drop l.place l.list))
    ≡ map table_finding_of l.initial.found.items ++ unread_numbered unread_unused 1 (items_view l.list)
