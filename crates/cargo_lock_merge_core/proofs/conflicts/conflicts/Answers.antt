use Rattle.std.proofs.Common.{◌≡◌, ◌∙◌, ◌++◌, ◌+◌, ◌<◌, ◌∷◌, [], inl, inr, ℕ, Bool, List, ap, arith, get_or, length, subst, sym, true≢false}
use Rattle.cargo_lock_merge_core.specs.declared.conflicts.Conflict.{Conflict}
use Rattle.cargo_lock_merge_core.specs.declared.conflicts.Kind.{Kind}
use Rattle.cargo_lock_merge_core.specs.declared.entry.Entry.{Entry}
use Rattle.cargo_lock_merge_core.specs.declared.plan.Plan.{Plan}
use Rattle.cargo_lock_merge_core.specs.Commits.{Lockfiles}
use Rattle.lists.specs.Marks.{IsMarked}
use Rattle.cargo_lock_merge_core.proofs.Conflicting.{AreFound, conflict-pass, conflict-push, conflicts-end}
use Rattle.cargo_lock_merge_core.proofs.conflicts.conflicts.Goals as goal
use Rattle.cargo_lock_merge_core.proofs.conflicts.conflicts.Goals.{then-is_marked+in_ok-put_conflict, else-is_marked}

-- the entry is that of the plan
there : (es fs : List Entry) (i : ℕ) (e : Entry) → fs ≡ es → i < length fs → e ≡ get_or fs i e → (i < length es) × (e ≡ get_or es i e)
there es fs i e same low is = (
  subst (λ (gs : List Entry). i < length gs) same low,
  subst (λ (gs : List Entry). e ≡ get_or gs i e) same is,
)

pub loop-at-preserved : goal.loop-at-preserved
loop-at-preserved c = λ s h.
    let plan : Plan = c.args.plan.now in
    let kind : Kind = c.args.kind in
    let all : Lockfiles = c.args.commits.now in
    let i = c.loop-at.at in
    let e : Entry = c.entry-item.result in
    let cs : List Conflict = c.loop-at.all.items in
    let at = there plan.entries.items c.deref-entry-items.result.now i e c.deref-entry-items.ensures.value c.loop-at-test.true c.entry-item.is in
    let so-far = c.loop-at.invariant s h in
    let to = λ (ns : List Conflict) (os : List Conflict) (is : os ≡ ns) (k : AreFound plan all kind (i + 1) ns).
    subst (AreFound plan all kind (i + 1)) (sym is) k in
    elim c.if-is_marked.branch [
      | then-is_marked+in_ok-put_conflict w ↦
          let marked = subst (λ (bs : List Bool). IsMarked bs i) c.deref.ensures.value (c.is_marked.ensures.0 w.if-is_marked.true) in
          elim w.in_ok-put_conflict.ensures.ok [
            | inl put ↦ to (cs ++ put.1.0 ∷ []) c.if-is_marked.all.items (ap (λ v. v.items) w.all-is ∙ put.1.2) (conflict-push s plan h all kind i cs e so-far at.0 at.1 marked put.0 put.1.0 put.1.1)
            | inr none ↦ to cs c.if-is_marked.all.items (ap (λ v. v.items) w.all-is ∙ none.1) (conflict-pass s plan h all kind i cs e so-far at.0 at.1 (λ k. none.0 k.1))
          ]
      | else-is_marked w ↦
          to cs c.if-is_marked.all.items (ap (λ v. v.items) w.all-is)
          (conflict-pass s plan h all kind i cs e so-far at.0 at.1 (λ k.
          true≢false (sym (c.is_marked.ensures.1 (subst (λ (bs : List Bool). IsMarked bs i) (sym c.deref.ensures.value) k.0)) ∙ w.if-is_marked.false)))
    ]

pub returns-clause-ok : goal.returns-clause-ok
returns-clause-ok c = λ s h same.
    let end = c.loop-at-test.false in
    conflicts-end s c.args.plan.now h c.args.commits.now same c.args.kind c.loop-at.at c.loop-at.all.items (c.loop-at.invariant s h)
    (let is = ap (λ (es : List Entry). length es) c.deref-entry-items.ensures.value in omega (arith, end, is))
