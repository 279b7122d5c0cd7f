use Rattle.std.proofs.Common.{◌≡◌, ◌∙◌, ◌+◌, ◌<◌, ℕ, Bool, List, ap, arith, get_or, length, subst, sym, true≢false}
use Rattle.std.specs.Borrow.{Bor}
use Rattle.std.specs.BTreeMap.{BTreeMap}
use Rattle.cargo_lock_parts.specs.Source.{Source}
use Rattle.cargo_lock_merge_core.specs.declared.commits.SourceCommits.{SourceCommits}
use Rattle.cargo_lock_merge_core.specs.declared.entry.Entry.{Entry}
use Rattle.cargo_lock_merge_core.specs.declared.plan.Plan.{Plan}
use Rattle.lists.specs.Marks.{IsMarked}
use Rattle.cargo_lock_merge_core.proofs.Disputing.{AreSourcesSoFar, sources-end, sources-more, sources-pass}
use Rattle.cargo_lock_merge_core.proofs.disputes.disputes.Goals as goal
use Rattle.cargo_lock_merge_core.proofs.disputes.disputes.Goals.{then-is_marked+in_ok-put_dispute+in_ok-put_dispute-2, else-is_marked}

-- the entry is that of the plan
there : (es fs : List Entry) (i : ℕ) (e : Entry) → fs ≡ es → i < length fs → e ≡ get_or fs i e → (i < length es) × (e ≡ get_or es i e)
there es fs i e same low is = (
  subst (λ (gs : List Entry). i < length gs) same low,
  subst (λ (gs : List Entry). e ≡ get_or gs i e) same is,
)

pub loop-at-preserved : goal.loop-at-preserved
loop-at-preserved c =
    let plan : Plan = c.args.plan.now in
    let all = c.args.commits.now in
    let i = c.loop-at.at in
    let e : Entry = c.entry-item.result in
    let at = there plan.entries.items c.deref-entry-items.result.now i e c.deref-entry-items.ensures.value c.loop-at-test.true c.entry-item.is in
    let f = c.loop-at.invariant in
    elim c.if-is_marked.branch [
      | then-is_marked+in_ok-put_dispute+in_ok-put_dispute-2 w ↦
          let marked = subst (λ (bs : List Bool). IsMarked bs i) c.deref.ensures.value (c.is_marked.ensures.0 w.if-is_marked.true) in
          let ours = w.in_ok-put_dispute.ensures.ok f.listed in
          let theirs = w.in_ok-put_dispute-2.ensures.ok ours.listed in
          subst (λ (list : List SourceCommits). AreSourcesSoFar plan all (i + 1) list c.if-is_marked.seen) (sym (ap (λ v. v.items) w.all-is))
          (subst (λ (seen : BTreeMap Source (Bor Source)). AreSourcesSoFar plan all (i + 1) w.put_dispute-then-is_marked.new.all.items seen) (sym w.seen-is)
          (sources-more plan all i e c.loop-at.all.items w.put_dispute.new.all.items w.put_dispute-then-is_marked.new.all.items c.loop-at.seen w.put_dispute.new.seen w.put_dispute-then-is_marked.new.seen
          at.0 at.1 marked f ours theirs))
      | else-is_marked w ↦
          subst (λ (list : List SourceCommits). AreSourcesSoFar plan all (i + 1) list c.if-is_marked.seen) (sym (ap (λ v. v.items) w.all-is))
          (subst (λ (seen : BTreeMap Source (Bor Source)). AreSourcesSoFar plan all (i + 1) c.loop-at.all.items seen) (sym w.seen-is)
          (sources-pass plan all i c.loop-at.all.items c.loop-at.seen
          (λ k. true≢false (sym (c.is_marked.ensures.1 (subst (λ (bs : List Bool). IsMarked bs i) (sym c.deref.ensures.value) k)) ∙ w.if-is_marked.false)) f))
    ]

pub returns-clause-ok : goal.returns-clause-ok
returns-clause-ok c = λ s h same.
    let end = c.loop-at-test.false in
    sources-end s c.args.plan.now h c.args.commits.now same c.loop-at.at c.loop-at.all.items c.loop-at.seen c.loop-at.invariant
    (let is = ap (λ (es : List Entry). length es) c.deref-entry-items.ensures.value in omega (arith, end, is))
