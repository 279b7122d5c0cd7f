use Rattle.std.proofs.Common.{◌∙◌, ◌||◌, ap, cond, true}
use Rattle.std.specs.BTreeSet.{keys}
use Rattle.cargo_lock_merge.specs.Patches.{has_identity}
use Rattle.cargo_lock_merge.proofs.Patching.{put-more, same-equiv}
use Rattle.cargo_lock_parts.specs.Identity.{Identity}
use Rattle.cargo_lock_parts.specs.IdentityOrder.{is_same_identity}
use Rattle.cargo_lock_merge.proofs.patches.put.Goals as goal

pub returns-clause-ok : goal.returns-clause-ok
returns-clause-ok c = λ d.
    let k : Identity = c.in_ok-clone.field-0 in
    let old = has_identity (keys c.args.set.now) d in
    c.in_ok-insert.ensures.updates.0 d ∙ ap (λ b. cond b true old) (same-equiv.symm k d) ∙ put-more (is_same_identity d k) old
    ∙ ap (λ (x : Identity). old || is_same_identity d x) c.in_ok-clone.ensures.cases
