use Rattle.std.proofs.Common.{◌≡◌, List, [], ◌∷◌, add-one, length, refl, sym}
use Rattle.toml.specs.View.{items_view}
use Rattle.toml.specs.declared.value.Value.{Value}
use Rattle.cargo_lock_table_flaws.specs.Report.{items_count}
use Rattle.cargo_lock_table_flaws.proofs.report.items_count.Goals as goal

items-counted : (vs : List Value) → items_count (items_view vs) ≡ length vs
items-counted [] = refl
items-counted (v ∷ vs) = rw (items-counted vs) (add-one (length vs))

pub returns : goal.returns
returns c = sym (items-counted c.args.list.now)
