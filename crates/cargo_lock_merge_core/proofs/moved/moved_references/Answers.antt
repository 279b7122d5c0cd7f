use Rattle.std.proofs.Common.{◌∙◌, ◌+◌, ◌++◌, ℕ, List, ap, arith, subst, sym}
use Rattle.cargo_lock_merge_core.specs.declared.merged.Merged.{Merged}
use Rattle.cargo_lock_merge_core.specs.declared.moved.Moved.{Moved}
use Rattle.cargo_lock_merge_core.specs.Moved.{AreMovedFrom}
use Rattle.cargo_lock_merge_core.specs.Numbered.{all_data}
use Rattle.cargo_lock_merge_core.specs.Placed.{PlacedData}
use Rattle.cargo_lock_merge_core.proofs.Moving.{AreMovedSoFar, moved-end, moved-more}
use Rattle.cargo_lock_merge_core.proofs.moved.moved_references.Goals as goal

pub loop-one-preserved : goal.loop-one-preserved
loop-one-preserved c =
    let o : List (PlacedData ℕ) = all_data c.args.ours.now in
    let t : List (PlacedData ℕ) = all_data c.args.theirs.now in
    let ms : List Merged = c.args.merged.now in
    let k = c.loop-one.one-index in
    let all : List Moved = c.loop-one.all.items in
    let part : List Moved = c.in_ok-some.some.items in
    let some : AreMovedFrom o t ms c.one-item.result part =
    subst (λ (z : List (PlacedData ℕ)). AreMovedFrom o z ms c.one-item.result part) c.in_ok-theirs.ensures
    (subst (λ (z : List (PlacedData ℕ)). AreMovedFrom z c.in_ok-theirs.theirs ms c.one-item.result part) c.in_ok-ours.ensures c.in_ok-some.ensures) in
    subst (AreMovedSoFar o t ms (k + 1)) (sym (c.in_ok-extend_from_slice.ensures.items ∙ ap (λ (zs : List Moved). all ++ zs) c.deref-in-loop-one.ensures.value))
    (moved-more o t ms k c.one-item.result all part c.loop-one.invariant c.requires.merged c.loop-one-test.true c.one-item.is some)

pub returns : goal.returns
returns c =
    let end = c.loop-one-test.false in
    moved-end (all_data c.args.ours.now) (all_data c.args.theirs.now) c.args.merged.now c.loop-one.one-index c.loop-one.all.items c.loop-one.invariant (omega (arith, end))
