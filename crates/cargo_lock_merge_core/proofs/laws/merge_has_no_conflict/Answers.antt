use Rattle.cargo_lock_merge_core.proofs.Staying.{no-checksum, no-package, no-replacement}
use Rattle.cargo_lock_merge_core.proofs.laws.merge_has_no_conflict.Goals as goal

pub returns : goal.returns
returns c = λ s m p one h.
    (no-package s one.base one.ours one.theirs m p h, no-checksum s one.base one.ours one.theirs m p h, no-replacement s one.base one.ours one.theirs m p h)
