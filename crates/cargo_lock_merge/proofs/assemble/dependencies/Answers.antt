use Rattle.std.proofs.Common.{◌≡◌, ◌∙◌, ◌+◌, ◌↔◌, [], ℕ, List, ap, arith, get_or, map, subst, sym, take}
use Rattle.std.specs.List.{Contains}
use Rattle.std.proofs.lemmas.List.{get_or_default, take_all}
use Rattle.std.proofs.lemmas.List.Sorted.{Contains-permutation, IsPermutation-sym}
use Rattle.cargo_lock_parts.specs.Identity.{Identity}
use Rattle.cargo_lock_merge_core.specs.Assembled.{IsIdentityAt}
use Rattle.cargo_lock_merge_core.specs.Merged.{merged_data}
use Rattle.cargo_lock_merge_core.specs.Placed.{PlacedData}
use Rattle.lists.proofs.Members.{none-in}
use Rattle.cargo_lock_merge.proofs.Assembling.{identity-at, looked-up, none-at, only-at, passed-by}
use Rattle.cargo_lock_merge.proofs.Once.{AreSoFar, apart-at-end, more-so-far, none-so-far, passed-so-far}
use Rattle.cargo_lock_merge.proofs.assemble.dependencies.Goals as goal
use Rattle.cargo_lock_merge.proofs.assemble.dependencies.Goals.{in-Some+in_ok-of+in_ok-push, in_default}

pub loop-place-init : goal.loop-place-init
loop-place-init c =
    let m : List (PlacedData ℕ) = map merged_data c.args.merged.now in
    let empty : c.in_ok-all.all.items ≡ [] = c.in_ok-all.ensures.items in
    record {
      listed = λ i. subst (λ (is : List Identity). Contains is i ↔ ((n : ℕ) × Contains {X = ℕ} [] n × IsIdentityAt m n i)) (sym empty)
          (λ h. absurd (none-in i h), λ h. absurd (none-in h.0 h.1));
      once = λ up. subst (AreSoFar m c.args.at.now 0) (sym empty) (none-so-far m c.args.at.now);
    }

pub loop-place-preserved : goal.loop-place-preserved
loop-place-preserved c =
    let m : List (PlacedData ℕ) = map merged_data c.args.merged.now in
    let ns : List ℕ = c.args.at.now in
    let k = c.loop-place.place-index in
    let n : ℕ = get_or ns k 0 in
    let low = c.loop-place-test.true in
    let old : List Identity = c.loop-place.all.items in
    elim c.match-package_at.branch [
      | in-Some+in_ok-of+in_ok-push w ↦
          let d : Identity = w.in_ok-of.field-0 in
          let found : IsIdentityAt m n d = identity-at c.args.merged.now n w.in-Some.target.now d w.in-Some.ensures w.in_ok-of.ensures.ok in record {
            listed = looked-up m ns k n old c.match-package_at.all.items d low (get_or_default ns k 0 n low) c.loop-place.invariant.listed (λ i other. only-at c.args.merged.now n i d c.requires.ascending other found) found (ap (λ v. v.items) w.all-is ∙ w.in_ok-push.ensures.items);
            once = λ up. more-so-far m ns k old c.match-package_at.all.items d up low (c.loop-place.invariant.once up) found (ap (λ v. v.items) w.all-is ∙ w.in_ok-push.ensures.items);
          }
      | in_default w ↦ record {
        listed = subst (λ (is : List Identity). (i : Identity) → Contains is i ↔ ((j : ℕ) × Contains (take (k + 1) ns) j × IsIdentityAt m j i)) (sym (ap (λ v. v.items) w.all-is))
            (passed-by m ns k n old low (get_or_default ns k 0 n low) c.loop-place.invariant.listed (none-at c.args.merged.now n w.in_default.ensures));
        once = λ up. passed-so-far m ns k old c.match-package_at.all.items up low (c.loop-place.invariant.once up) (none-at c.args.merged.now n w.in_default.ensures) (ap (λ v. v.items) w.all-is);
      }
    ]

pub returns-clause-ok : goal.returns-clause-ok
returns-clause-ok c = λ i.
    let m : List (PlacedData ℕ) = map merged_data c.args.merged.now in
    let ns : List ℕ = c.args.at.now in
    let end = c.loop-place-test.false in
    let all : (j : Identity) → Contains c.loop-place.all.items j ↔ ((n : ℕ) × Contains ns n × IsIdentityAt m n j) =
    subst (λ (xs : List ℕ). (j : Identity) → Contains c.loop-place.all.items j ↔ ((n : ℕ) × Contains xs n × IsIdentityAt m n j)) (take_all c.loop-place.place-index ns (omega (arith, end))) c.loop-place.invariant.listed in
    let moved = c.in_ok-put_in_order.ensures.permutation in
    (λ h. (all i).0 (Contains-permutation _ _ i (IsPermutation-sym _ _ moved) h), λ h. Contains-permutation _ _ i moved ((all i).1 h))

pub returns-clause-once : goal.returns-clause-once
returns-clause-once c = λ up.
    apart-at-end (map merged_data c.args.merged.now) c.args.at.now c.loop-place.place-index c.loop-place.all.items _ (c.loop-place.invariant.once up) c.in_ok-put_in_order.ensures.permutation
