use Rattle.std.proofs.Common.{◌≡◌, ◌∙◌, ◌++◌, ◌+◌, ◌<◌, ◌∷◌, [], ℕ, Bool, List, MatchOption, Option, arith, ap, get_or, length, subst, sym, true≢false, Some, None}
use Rattle.cargo_lock_merge_core.specs.declared.entry.Entry.{Entry}
use Rattle.cargo_lock_merge_core.specs.declared.merged.Merged.{Merged}
use Rattle.cargo_lock_merge_core.specs.declared.plan.Plan.{Plan}
use Rattle.cargo_lock_merge_core.specs.Kept.{AreSoFar}
use Rattle.cargo_lock_merge_core.specs.Merge.{lockfiles_of}
use Rattle.cargo_lock_merge_core.specs.Merged.{IsMergedEntry, IsUnsettled}
use Rattle.lists.specs.Marks.{IsMarked}
use Rattle.cargo_lock_merge_core.proofs.Conflicting.{some-conflict}
use Rattle.cargo_lock_merge_core.proofs.SoFar.{entry-settled, in-place, no-merge, so-far-end, so-far-pass, so-far-push, so-far-start}
use Rattle.cargo_lock_merge_core.proofs.merged.merged_packages.Goals as goal
use Rattle.cargo_lock_merge_core.proofs.merged.merged_packages.Goals.{then-is_marked+in_ok-merged+in-Some+in_ok-push-in-Some, else-is_marked}

pub loop-at-init : goal.loop-at-init
loop-at-init c = λ s h. subst (λ (ms : List Merged). AreSoFar c.args.plan.now 0 ms) (sym c.new-all.ensures.items) (so-far-start c.args.plan.now)

-- the entry is that of the plan
there : (es fs : List Entry) (i : ℕ) (e : Entry) → fs ≡ es → i < length fs → e ≡ get_or fs i e → (i < length es) × (e ≡ get_or es i e)
there es fs i e same low is = (
  subst (λ (gs : List Entry). i < length gs) same low,
  subst (λ (gs : List Entry). e ≡ get_or gs i e) same is,
)

matched : (o : Option Merged) (m : Merged) (U : Type 0) (V : Merged → Type 0) → o ≡ Some m → MatchOption o U V → V m
matched o m U V e h = subst (λ (w : Option Merged). MatchOption w U V) e h

unmatched : (o : Option Merged) (U : Type 0) (V : Merged → Type 0) → o ≡ None → MatchOption o U V → U
unmatched o U V e h = subst (λ (w : Option Merged). MatchOption w U V) e h

pub loop-at-preserved : goal.loop-at-preserved
loop-at-preserved c = λ s h.
    let plan : Plan = c.args.plan.now in
    let i = c.loop-at.at in
    let e : Entry = c.entry-item.result in
    let ms : List Merged = c.loop-at.all.items in
    let at = there plan.entries.items c.deref-entry-items.result.now i e c.deref-entry-items.ensures.value c.loop-at-test.true c.entry-item.is in
    let so-far = c.loop-at.invariant s h in
    let to = λ (ns : List Merged) (os : List Merged) (is : os ≡ ns) (k : AreSoFar plan (i + 1) ns). subst (AreSoFar plan (i + 1)) (sym is) k in
    elim c.if-is_marked.branch [
      | then-is_marked+in_ok-merged+in-Some+in_ok-push-in-Some w ↦
          let m : Merged = w.in-Some.merged in
          let merged = matched w.in_ok-merged.field-0 m (IsUnsettled e.chosen) (IsMergedEntry e) w.in-Some.is (w.in_ok-merged.ensures (lockfiles_of s) (entry-settled s plan h i e at.0 at.1)) in
          let marked = subst (λ (bs : List Bool). IsMarked bs i) c.deref.ensures.value (c.is_marked.ensures.0 w.if-is_marked.true) in
          to (ms ++ m ∷ []) c.if-is_marked.all.items (ap (λ v. v.items) w.all-is ∙ w.in_ok-push-in-Some.ensures.items) (so-far-push s plan h i ms e m so-far at.0 at.1 marked merged)
      | else-is_marked w ↦
          let unmarked : ¬ IsMarked plan.reached.items i = λ k.
          true≢false (sym (c.is_marked.ensures.1 (subst (λ (bs : List Bool). IsMarked bs i) (sym c.deref.ensures.value) k)) ∙ w.if-is_marked.false) in
          to ms c.if-is_marked.all.items (ap (λ v. v.items) w.all-is) (so-far-pass s plan h i ms so-far at.0 unmarked)
    ]

pub returns-in-None-clause-merge : goal.returns-in-None-clause-merge
returns-in-None-clause-merge c = λ s h m.
    let plan : Plan = c.args.plan.now in
    let i = c.loop-at.at in
    let e : Entry = c.entry-item.result in
    let at = there plan.entries.items c.deref-entry-items.result.now i e c.deref-entry-items.ensures.value c.loop-at-test.true c.entry-item.is in
    let none = unmatched c.in_ok-merged.field-0 (IsUnsettled e.chosen) (IsMergedEntry e) c.in-None.is (c.in_ok-merged.ensures (lockfiles_of s) (entry-settled s plan h i e at.0 at.1)) in
    let marked = subst (λ (bs : List Bool). IsMarked bs i) c.deref.ensures.value (c.is_marked.ensures.0 c.if-is_marked.true) in
    no-merge s plan h i e m at.0 at.1 marked none

pub returns-clause-merge : goal.returns-clause-merge
returns-clause-merge c = λ s h.
    let plan : Plan = c.args.plan.now in
    let end = c.loop-at-test.false in
    so-far-end s plan h c.loop-at.at c.loop-at.all.items (c.loop-at.invariant s h) (let is = ap (λ (es : List Entry). length es) c.deref-entry-items.ensures.value in omega (arith, end, is))

pub returns-clause-in_place : goal.returns-clause-in_place
returns-clause-in_place c = λ s h. in-place s c.args.plan.now h c.loop-at.at c.loop-at.all.items (c.loop-at.invariant s h)

pub returns-in-None-clause-conflict : goal.returns-in-None-clause-conflict
returns-in-None-clause-conflict c = λ s h.
    let plan : Plan = c.args.plan.now in
    let i = c.loop-at.at in
    let e : Entry = c.entry-item.result in
    let at = there plan.entries.items c.deref-entry-items.result.now i e c.deref-entry-items.ensures.value c.loop-at-test.true c.entry-item.is in
    let none = unmatched c.in_ok-merged.field-0 (IsUnsettled e.chosen) (IsMergedEntry e) c.in-None.is (c.in_ok-merged.ensures (lockfiles_of s) (entry-settled s plan h i e at.0 at.1)) in
    let marked = subst (λ (bs : List Bool). IsMarked bs i) c.deref.ensures.value (c.is_marked.ensures.0 c.if-is_marked.true) in
    some-conflict s plan h i e at.0 at.1 marked none
