use Rattle.std.proofs.Common.{◌≡◌, ◌∙◌, ◌++◌, ℕ, List, drop, ap, arith, inl, inr, subst, sym}
use Rattle.std.specs.List.{Contains}
use Rattle.std.specs.List.Sorted.{IsStrictlyIncreasing}
use Rattle.std.proofs.lemmas.List.{take_rest}
use Rattle.cargo_lock_merge_core.proofs.Ascending.{union-first, union-second, union-both, end-up, end-holds}
use Rattle.cargo_lock_merge_core.proofs.sets.all_places.Goals as goal
use Rattle.cargo_lock_merge_core.proofs.sets.all_places.Goals.{then-place-next-2, else-place-next-2, then-loop-one-test+else-other-theirs, else-loop-one-test}

pub loop-one-preserved-then-place-next : goal.loop-one-preserved-then-place-next
loop-one-preserved-then-place-next c =
    let l = c.loop-one in
    rw c.in_ok-push.ensures.items
    (union-first c.args.ours.now c.args.theirs.now l.one l.other l.all.items l.invariant c.requires.ours c.loop-one-test.true c.if-other-theirs.true c.if-place-next.true)

pub loop-one-preserved : goal.loop-one-preserved
loop-one-preserved c =
    let l = c.loop-one in
    elim c.if-place-next-2.branch [
      | then-place-next-2 w ↦ rw (w.one-is, c.in_ok-push-2.ensures.items)
          (union-both c.args.ours.now c.args.theirs.now l.one l.other l.all.items l.invariant c.requires.ours c.requires.theirs c.loop-one-test.true c.if-other-theirs.true w.if-place-next-2.true)
      | else-place-next-2 w ↦
          let ge = c.if-place-next.false in
          let ne = w.if-place-next-2.false in
          rw (w.one-is, c.in_ok-push-2.ensures.items)
          (union-second c.args.ours.now c.args.theirs.now l.one l.other l.all.items l.invariant c.requires.theirs c.loop-one-test.true c.if-other-theirs.true (omega (arith, ge, ne)))
    ]

pub returns-clause-ascending : goal.returns-clause-ascending
returns-clause-ascending c =
    let l = c.loop-one in
    let xs : List ℕ = c.args.ours.now in
    let ys : List ℕ = c.args.theirs.now in
    let items : c.extend_from_slice-2.new.self.items ≡ (l.all.items ++ drop l.one xs) ++ drop l.other ys =
    c.in_ok-extend_from_slice-2.ensures.items ∙ ap (λ zs. c.extend_from_slice.new.self.items ++ zs) (take_rest ys l.other)
    ∙ ap (λ zs. zs ++ drop l.other ys) (c.in_ok-extend_from_slice.ensures.items ∙ ap (λ zs. l.all.items ++ zs) (take_rest xs l.one)) in
    subst IsStrictlyIncreasing (sym items) (end-up xs ys l.one l.other l.all.items l.invariant c.requires.ours c.requires.theirs
    (elim c.loop-one-test.branch [
      | then-loop-one-test+else-other-theirs w ↦ inr w.if-other-theirs.false
      | else-loop-one-test w ↦ inl w.loop-one-test.false
    ]))

pub returns-clause-holds : goal.returns-clause-holds
returns-clause-holds c p =
    let l = c.loop-one in
    let xs : List ℕ = c.args.ours.now in
    let ys : List ℕ = c.args.theirs.now in
    let items : c.extend_from_slice-2.new.self.items ≡ (l.all.items ++ drop l.one xs) ++ drop l.other ys =
    c.in_ok-extend_from_slice-2.ensures.items ∙ ap (λ zs. c.extend_from_slice.new.self.items ++ zs) (take_rest ys l.other)
    ∙ ap (λ zs. zs ++ drop l.other ys) (c.in_ok-extend_from_slice.ensures.items ∙ ap (λ zs. l.all.items ++ zs) (take_rest xs l.one)) in
    let holds = end-holds xs ys l.one l.other l.all.items l.invariant p in (
      λ h. holds.0 (subst (λ (zs : List ℕ). Contains zs p) items h),
      λ h. subst (λ (zs : List ℕ). Contains zs p) (sym items) (holds.1 h),
    )
