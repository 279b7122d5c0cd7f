use Rattle.std.proofs.Common.{◌≡◌, map, take}
use Rattle.cargo_lock_verify.specs.Vendored.{folder_class, vendored_of}
use Rattle.cargo_lock_verify.proofs.vendor_report.classes_of.Given as goal

-- the classes of the packages so far
abbrev pub invariant-loop-one : goal.invariant-loop-one
invariant-loop-one l = l.classes.items ≡ map folder_class (map vendored_of (take l.one-index l.vendored))
