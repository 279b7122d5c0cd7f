use Rattle.std.proofs.Common.{◌≡◌, ◌++◌, drop, map, option_map}
use Rattle.toml.specs.View.{items_view}
use Rattle.cargo_lock_table_flaws.specs.Names.{names_of_items}
use Rattle.cargo_lock_table_flaws.proofs.names.names_of_items.Given as goal

abbrev pub invariant-loop-value : goal.invariant-loop-value
invariant-loop-value l =
    map (option_map (λ t. t.now)) l.names.items ++ names_of_items (items_view (drop l.value-index l.list)) ≡ names_of_items (items_view l.list)
