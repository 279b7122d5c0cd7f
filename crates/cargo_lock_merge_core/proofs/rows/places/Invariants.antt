use Rattle.std.proofs.Common.{◌≡◌, take}
use Rattle.cargo_lock_merge_core.specs.Numbered.{all_data, place_numbers}
use Rattle.cargo_lock_merge_core.proofs.rows.places.Given as goal

abbrev pub invariant-loop-package : goal.invariant-loop-package
invariant-loop-package l = l.places.items ≡ place_numbers (all_data (take l.package-index l.list))
