use Rattle.std.proofs.Common.{◌∙◌, List, subst}
use Rattle.cargo_lock_parts.specs.Identity.{Identity}
use Rattle.std.specs.List.Sorted.{IsPermutation}
use Rattle.cargo_lock_merge.proofs.Patching.{kept-patches, kept-permutation, patches-along}
use Rattle.cargo_lock_merge.proofs.patches.merge_patches.Goals as goal

pub returns-clause-ok : goal.returns-clause-ok
returns-clause-ok c =
    let b : List Identity = c.deref.result.now in
    let o : List Identity = c.deref-2.result.now in
    let t : List Identity = c.deref-3.result.now in
    let kept : List Identity = c.in_ok-kept.kept.items in
    let moved = subst (λ (xs : List Identity). IsPermutation xs c.in_ok-unused.unused.items) c.deref-4.ensures.value c.in_ok-unused.ensures.ok in
    let done = kept-patches b o t c.in_ok-unused.unused.items c.in_ok-unused.ensures.order (kept-permutation b o t kept c.in_ok-unused.unused.items moved c.in_ok-kept.ensures.ok) in
    patches-along b o t c.args.base.now c.args.ours.now c.args.theirs.now c.in_ok-unused.unused.items (c.deref.ensures.value ∙ c.base.view_is) (c.deref-2.ensures.value ∙ c.ours.view_is)
    (c.deref-3.ensures.value ∙ c.theirs.view_is) done
