use Rattle.std.proofs.Common.{◌≡◌, ◌++◌, drop}
use Rattle.toml.specs.View.{items_view}
use Rattle.cargo_lock.specs.LossySources.{patch_source, sources_of_items}
use Rattle.cargo_lock.specs.Texts.{texts_at}
use Rattle.cargo_lock.proofs.lockfile.lossy_sources.put_patch_list.Given as goal

abbrev pub invariant-loop-item : goal.invariant-loop-item
invariant-loop-item l =
    texts_at l.all.items ++ sources_of_items patch_source (items_view (drop l.item-index l.item-items))
    ≡ texts_at l.initial.all.items ++ sources_of_items patch_source (items_view l.item-items)
