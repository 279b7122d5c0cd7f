use Rattle.std.proofs.Common.{◌≡◌, ◌∙◌, ◌+◌, ◌<◌, ℕ, List, MatchOption, Option, ap, arith, get_or, length, map, subst, sym}
use Rattle.std.specs.List.{Contains}
use Rattle.std.specs.List.Sorted.{IsStrictlyIncreasing}
use Rattle.std.proofs.lemmas.List.Elements.{Contains-get_or, All-contains}
use Rattle.cargo_lock_merge_core.specs.declared.merged.Merged.{Merged}
use Rattle.cargo_lock_merge_core.specs.declared.moved.Moved.{Moved}
use Rattle.cargo_lock_merge_core.specs.Merged.{merged_data}
use Rattle.cargo_lock_merge_core.specs.Moved.{IsMovedFrom, IsMovedTo}
use Rattle.cargo_lock_merge_core.specs.Placed.{PlacedData}
use Rattle.cargo_lock_merge_core.proofs.Moving.{AreFirst, first-end, first-pass, first-push}
use Rattle.cargo_lock_merge_core.proofs.moved.moved_from.Goals as goal
use Rattle.cargo_lock_merge_core.proofs.moved.moved_from.Goals.{in-Some+in_ok-push, in_default}

pub loop-to-preserved : goal.loop-to-preserved
loop-to-preserved c =
    let o : List (PlacedData ℕ) = c.args.ours.now in
    let t : List (PlacedData ℕ) = c.args.theirs.now in
    let ms : List Merged = c.args.merged.now in
    let one : Merged = c.args.one.now in
    let ds : List ℕ = one.dependencies.items in
    let k = c.loop-to.to-index in
    let q : ℕ = get_or ds k 0 in
    let low = subst (λ (es : List ℕ). k < length es) c.deref-to-items.ensures.value c.loop-to-test.true in
    let up = All-contains (λ (m : Merged). IsStrictlyIncreasing m.dependencies.items) ms one c.requires.merged.each c.requires.one in
    let e : get_or c.deref-to-items.result.now k 0 ≡ q = ap (λ (es : List ℕ). get_or es k 0) c.deref-to-items.ensures.value in
    let found = subst (λ (n : ℕ). Contains ds n → MatchOption c.moved_to.result (¬ IsMovedTo o t (map merged_data ms) (merged_data one) n) (IsMovedFrom o t (map merged_data ms) (merged_data one) n)) e c.moved_to.ensures (Contains-get_or ds k 0 low) in
    let all : List Moved = c.loop-to.all.items in
    elim c.match-moved_to.branch [
      | in-Some+in_ok-push w ↦
          let r : Moved = w.in-Some.moved in
          let is = subst (λ (w : Option Moved). MatchOption w (¬ IsMovedTo o t (map merged_data ms) (merged_data one) q) (IsMovedFrom o t (map merged_data ms) (merged_data one) q)) w.in-Some.is found in
          subst (AreFirst o t ms one (k + 1)) (sym (ap (λ v. v.items) w.all-is ∙ w.in_ok-push.ensures.items)) (first-push o t ms one k all r c.loop-to.invariant up low is)
      | in_default w ↦
          let none = subst (λ (w : Option Moved). MatchOption w (¬ IsMovedTo o t (map merged_data ms) (merged_data one) q) (IsMovedFrom o t (map merged_data ms) (merged_data one) q)) w.in_default.is found in
          subst (AreFirst o t ms one (k + 1)) (sym (ap (λ v. v.items) w.all-is)) (first-pass o t ms one k all c.loop-to.invariant up low none)
    ]

pub returns : goal.returns
returns c =
    let end = c.loop-to-test.false in
    first-end c.args.ours.now c.args.theirs.now c.args.merged.now c.args.one.now c.loop-to.to-index c.loop-to.all.items c.loop-to.invariant (let is = ap (λ (es : List ℕ). length es) c.deref-to-items.ensures.value in omega (arith, end, is))
