use Rattle.std.proofs.Common.{take}
use Rattle.std.specs.List.{AllZip}
use Rattle.cargo_lock_merge.specs.Referring.{IsReferring}
use Rattle.cargo_lock_merge.proofs.referring.refer_as_cargo.Given as goal

-- the packages so far
abbrev pub invariant-loop-package : goal.invariant-loop-package
invariant-loop-package l = AllZip IsReferring (take l.package-index l.packages) l.all.items
