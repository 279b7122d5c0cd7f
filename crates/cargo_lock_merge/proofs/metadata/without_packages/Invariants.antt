use Rattle.std.proofs.Common.{◌≡◌, ℕ, List, take}
use Rattle.cargo_lock_merge.specs.OwnMetadata.{value_at_key, without_packages}
use Rattle.cargo_lock_references.specs.Records.{texts_of}
use Rattle.cargo_lock_merge.proofs.metadata.without_packages.Given as goal

-- without the checksums of the packages so far
abbrev pub invariant-loop-package : goal.invariant-loop-package
invariant-loop-package l = (key : List ℕ) → value_at_key l.own key ≡ without_packages (texts_of l.fn.metadata.entries) (take l.package-index l.packages) key
