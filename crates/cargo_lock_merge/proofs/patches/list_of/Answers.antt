use Rattle.std.proofs.Common.{◌≡◌, rules}
use Rattle.std.specs.BTreeSet.{keys}
use Rattle.std.proofs.lemmas.Map.Keys.{IsDistinct-from_sorted}
use Rattle.cargo_lock_parts.specs.IdentityOrder.{identity_cmp}
use Rattle.cargo_lock_merge.proofs.patches.list_of.Goals as goal

pub returns-clause-ok : goal.returns-clause-ok
returns-clause-ok c =
    let items : c.loop-patch.list.items ≡ keys c.args.set.now = search rules in
    (items, IsDistinct-from_sorted identity_cmp (keys c.args.set.now) c.len.ensures.ordered)
