use Rattle.std.proofs.Common.{◌≡◌, filter, map, take}
use Rattle.cargo_lock_merge.specs.Document.{is_loss, is_choice, matter_of}
use Rattle.cargo_lock_merge.proofs.document.Told.of.Given as goal

-- the notices so far, those about versions and the alarms
abbrev pub invariant-loop-one : goal.invariant-loop-one
invariant-loop-one l =
    (map matter_of l.told.versions.items ≡ filter is_choice (take l.one-index l.notices))
    × (map matter_of l.told.alarms.items ≡ filter is_loss (take l.one-index l.notices))
