use Rattle.std.proofs.Common.{◌∙◌, List, ap, map, subst, sym}
use Rattle.std.specs.List.Sorted.{IsPermutation, IsSorted}
use Rattle.std.proofs.lemmas.List.Sorted.{IsPermutation-map}
use Rattle.std.proofs.lemmas.Result.{IfOk-weaker}
use Rattle.cargo_lock_merge.specs.Order.{patch_order}
use Rattle.cargo_lock_merge.proofs.Sorting.{patches-in-order}
use Rattle.cargo_lock_parts.specs.Identity.{Identity, PackageData, identity_of}
use Rattle.cargo_lock_merge.proofs.patches.in_order.Goals as goal

pub returns-clause-ok : goal.returns-clause-ok
returns-clause-ok c =
    let ps : List PackageData = c.in_ok-packages.packages.items in
    let qs : List PackageData = c.put_in_order.new.list.items in
    let moved = IsPermutation-map identity_of ps qs c.in_ok-put_in_order.ensures.permutation in
    IfOk-weaker c.identities.result _ _ (λ all e. subst (λ (xs : List Identity). IsPermutation c.args.patches.now xs) (sym (e ∙ ap (map identity_of) c.deref.ensures.value))
    (subst (λ (xs : List Identity). IsPermutation xs (map identity_of qs)) c.in_ok-packages.ensures.ok moved))
    c.identities.ensures.ok

pub returns-clause-order : goal.returns-clause-order
returns-clause-order c =
    let qs : List PackageData = c.put_in_order.new.list.items in
    IfOk-weaker c.identities.result _ _ (λ all e. subst (IsSorted patch_order) (sym (e ∙ ap (map identity_of) c.deref.ensures.value)) (patches-in-order qs c.in_ok-put_in_order.ensures.sorted))
    c.identities.ensures.ok
