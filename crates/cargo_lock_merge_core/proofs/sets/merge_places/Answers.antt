use Rattle.std.proofs.Common.{◌≡◌, ◌⊎◌, ◌↔◌, ℕ, List, true, sym, subst}
use Rattle.std.specs.List.{Contains}
use Rattle.std.specs.List.Sorted.{IsStrictlyIncreasing}
use Rattle.cargo_lock_merge_core.proofs.Kept.{IsKeptOf, below-later, kept-alike, kept-among, kept-end, kept-pass, kept-push}
use Rattle.cargo_lock_merge_core.proofs.sets.merge_places.Goals as goal
use Rattle.cargo_lock_merge_core.proofs.sets.merge_places.Goals.{then-keeps+in_ok-push, else-keeps}

flip : {P Q : Type 0} → P ↔ Q → Q ↔ P
flip e = (e.1, e.0)

pub loop-place-preserved : goal.loop-place-preserved
loop-place-preserved c =
    let l = c.loop-place in
    let places : List ℕ = c.deref-place-items.result.now in
    let i = l.place-index in
    let up : IsStrictlyIncreasing places = subst IsStrictlyIncreasing (sym c.deref-place-items.ensures.value) c.in_ok-places.ensures.ascending in
    let low = c.loop-place-test.true in
    let b = c.has_place-in_base.ensures in
    let o = c.has_place-in_ours.ensures in
    let t = c.has_place-in_theirs.ensures in
    record {
      kept = elim c.if-keeps.branch [
        | then-keeps+in_ok-push w ↦ rw (w.merged-is, w.in_ok-push.ensures.items)
            (kept-push (IsKeptOf c.args.base.now c.args.ours.now c.args.theirs.now) places i l.merged.items l.invariant.kept up low
            (kept-alike b.found o.found t.found (c.keeps.ensures.0 w.if-keeps.true)))
        | else-keeps w ↦ rw w.merged-is
            (kept-pass (IsKeptOf c.args.base.now c.args.ours.now c.args.theirs.now) places i l.merged.items l.invariant.kept up low
            (λ h. let k : c.keeps.result ≡ true = c.keeps.ensures.1 (kept-alike (flip b.found) (flip o.found) (flip t.found) h) in
            let n = w.if-keeps.false in absurd (cc (k, n))))
      ];
      base = λ within. below-later c.args.base.now places c.has_place-in_base.new.at i up within b.below;
      ours = λ within. below-later c.args.ours.now places c.has_place-in_ours.new.at i up within o.below;
      theirs = λ within. below-later c.args.theirs.now places c.has_place-in_theirs.new.at i up within t.below;
    }

pub returns-clause-holds : goal.returns-clause-holds
returns-clause-holds c =
    let l = c.loop-place in
    let b : List ℕ = c.args.base.now in
    let o : List ℕ = c.args.ours.now in
    let t : List ℕ = c.args.theirs.now in
    let places : List ℕ = c.deref-place-items.result.now in
    let holds = subst (λ (zs : List ℕ). (p : ℕ) → Contains zs p ↔ (Contains o p ⊎ Contains t p)) (sym c.deref-place-items.ensures.value) c.in_ok-places.ensures.holds in
    kept-end (IsKeptOf b o t) places l.place-index l.merged.items l.invariant.kept c.loop-place-test.false (kept-among b o t places holds)
