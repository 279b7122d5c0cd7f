use Rattle.std.proofs.Common.{◌≡◌, ◌⊎◌, ◌↔◌, ◌∙◌, ℕ, List, arith, map, subst, sym}
use Rattle.std.specs.List.{Contains}
use Rattle.std.specs.List.Sorted.{IsStrictlyIncreasing}
use Rattle.std.proofs.lemmas.Grind.{common_steps}
use Rattle.std.proofs.lemmas.List.Elements.{All-push}
use Rattle.cargo_lock_merge_core.proofs.Kept.{below-later}
use Rattle.std.proofs.lemmas.List.{take_all}
use Rattle.cargo_lock_merge_core.specs.declared.rows.Row.{Row}
use Rattle.cargo_lock_merge_core.specs.Numbered.{IsRowOf, all_data, place_numbers}
use Rattle.cargo_lock_merge_core.proofs.rows.rows.Goals as goal

pub loop-place-preserved : goal.loop-place-preserved
loop-place-preserved c =
    let l = c.loop-place in
    let places : List ℕ = c.deref-place-items.result.now in
    let i = l.place-index in
    let up : IsStrictlyIncreasing places = subst IsStrictlyIncreasing (sym c.deref-place-items.ensures.value) c.in_ok-places.ensures.ascending in
    let b = c.package_of-base.ensures in
    let o = c.package_of-ours.ensures in
    let t = c.package_of-theirs.ensures in
    record {
      places = grind (arith, common_steps);
      exact = rw c.in_ok-push.ensures.items
          (All-push (IsRowOf (all_data c.args.base.now) (all_data c.args.ours.now) (all_data c.args.theirs.now)) l.rows.items _ l.invariant.exact
          record { base = b.found; ours = o.found; theirs = t.found });
      base = λ within. below-later (place_numbers (all_data c.args.base.now)) places c.package_of-base.new.at i up within b.below;
      ours = λ within. below-later (place_numbers (all_data c.args.ours.now)) places c.package_of-ours.new.at i up within o.below;
      theirs = λ within. below-later (place_numbers (all_data c.args.theirs.now)) places c.package_of-theirs.new.at i up within t.below;
    }

pub returns-clause-holds : goal.returns-clause-holds
returns-clause-holds c =
    let l = c.loop-place in
    let ours : List ℕ = place_numbers (all_data c.args.ours.now) in
    let theirs : List ℕ = place_numbers (all_data c.args.theirs.now) in
    let places : List ℕ = c.deref-place-items.result.now in
    let end = c.loop-place-test.false in
    let is : c.in_ok-places.places.items ≡ map (λ (r : Row). r.place) l.rows.items =
    sym (l.invariant.places ∙ take_all l.place-index places (omega (arith, end)) ∙ c.deref-place-items.ensures.value) in
    let o : c.deref.result.now ≡ ours = c.deref.ensures.value ∙ c.in_ok-our_places.ensures in
    let t : c.deref-2.result.now ≡ theirs = c.deref-2.ensures.value ∙ c.in_ok-their_places.ensures in
    let holds = c.in_ok-places.ensures.holds in
    let holds' : (p : ℕ) → Contains c.in_ok-places.places.items p ↔ (Contains ours p ⊎ Contains theirs p) =
    subst (λ (zs : List ℕ). (p : ℕ) → Contains c.in_ok-places.places.items p ↔ (Contains zs p ⊎ Contains theirs p)) o
    (subst (λ (zs : List ℕ). (p : ℕ) → Contains c.in_ok-places.places.items p ↔ (Contains c.deref.result.now p ⊎ Contains zs p)) t holds) in
    subst (λ (zs : List ℕ). (p : ℕ) → Contains zs p ↔ (Contains ours p ⊎ Contains theirs p)) is holds'
