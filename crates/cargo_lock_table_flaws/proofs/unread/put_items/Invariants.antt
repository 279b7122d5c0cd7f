use Rattle.std.proofs.Common.{◌≡◌, ◌++◌, drop, map}
use Rattle.toml.specs.View.{items_view}
use Rattle.cargo_lock_table_flaws.specs.Finding.{owner_of, table_finding_of}
use Rattle.cargo_lock_table_flaws.specs.Unread.{unread_items}
use Rattle.cargo_lock_table_flaws.proofs.unread.put_items.Given as goal

abbrev pub invariant-loop-value : goal.invariant-loop-value
invariant-loop-value l =
    map table_finding_of l.found.items ++ unread_items (owner_of l.owner) (items_view (drop l.value-index l.list))
    ≡ map table_finding_of l.initial.found.items ++ unread_items (owner_of l.owner) (items_view l.list)
