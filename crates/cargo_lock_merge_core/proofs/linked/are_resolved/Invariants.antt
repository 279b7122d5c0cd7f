use Rattle.std.proofs.Common.{take}
use Rattle.std.specs.List.{All}
use Rattle.cargo_lock_parts.specs.Identity.{PackageData}
use Rattle.cargo_lock_merge_core.specs.Linked.{IsResolved}
use Rattle.cargo_lock_merge_core.proofs.linked.are_resolved.Given as goal

-- the dependencies of the packages so far resolve
abbrev pub invariant-loop-package : goal.invariant-loop-package
invariant-loop-package l =
    All (λ (p : PackageData). All (IsResolved l.groups.packages) p.dependencies)
    (take l.package-index l.packages)
