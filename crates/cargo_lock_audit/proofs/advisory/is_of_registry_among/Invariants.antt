use Rattle.std.proofs.Common.{◌≡◌, drop}
use Rattle.cargo_lock_audit.specs.Advisory.{is_of_registry_among}
use Rattle.cargo_lock_audit.proofs.advisory.is_of_registry_among.Given as goal

-- what the other sources tell
abbrev pub invariant-loop-other : goal.invariant-loop-other
invariant-loop-other l = is_of_registry_among (drop l.other-index l.sources) l.source ≡ is_of_registry_among l.sources l.source
