use Rattle.std.proofs.Common.{◌≡◌, ◌∙◌, ◌+◌, ◌<◌, ℕ, List, Option, Some, ap, arith, length, subst, sym}
use Rattle.std.proofs.lemmas.Option.{slice_get-get_or}
use Rattle.cargo_lock_parts.specs.Identity.{PackageData}
use Rattle.cargo_lock_merge_core.specs.declared.numbered.Numbered.{Numbered}
use Rattle.cargo_lock_merge_core.specs.Lists.{all_numbered, numbered_data}
use Rattle.cargo_lock_merge_core.specs.Placed.{PlacedData}
use Rattle.cargo_lock_merge_core.specs.Places.{Place}
use Rattle.cargo_lock_merge_core.proofs.Planning.{map-push}
use Rattle.cargo_lock_merge_core.proofs.Slotting.{AreFirst, are-numbered, first-pass, first-push}
use Rattle.cargo_lock_merge_core.proofs.numbered.numbered_slots.Goals as goal
use Rattle.cargo_lock_merge_core.proofs.numbered.numbered_slots.Goals.{in-Some+in_ok-numbered+in_ok-push, in_default}

pub numbered_at-requires-clause-at : goal.numbered_at-requires-clause-at
numbered_at-requires-clause-at c =
    let slots : List (Option ℕ) = c.args.slots.now in
    let i = c.loop-slot.slot-index in
    subst (λ (ps : List PackageData). c.in-Some.at < length ps) c.requires.same ((c.requires.slots.each i c.in-Some.at).0 (slice_get-get_or slots i _ c.loop-slot-test.true ∙ ap Some c.in-Some.is)).0

pub loop-slot-preserved : goal.loop-slot-preserved
loop-slot-preserved c =
    let places : List Place = c.args.numbers.now in
    let packages : List PackageData = c.args.linked.now in
    let slots : List (Option ℕ) = c.args.slots.now in
    let i = c.loop-slot.slot-index in
    let xs : List (PlacedData ℕ) = all_numbered c.loop-slot.all.items in
    elim c.match-slot.branch [
      | in-Some+in_ok-numbered+in_ok-push w ↦
          let x : Numbered = w.in_ok-numbered.numbered in
          subst (λ (ys : List (PlacedData ℕ)). AreFirst places c.args.offset packages slots (i + 1) ys)
          (sym (ap (λ v. all_numbered v.items) w.all-is ∙ ap all_numbered w.in_ok-push.ensures.items ∙ map-push numbered_data c.loop-slot.all.items x))
          (first-push places c.args.offset packages slots i w.in-Some.at xs (numbered_data x) c.requires.slots c.loop-slot.invariant
          (slice_get-get_or slots i _ c.loop-slot-test.true ∙ ap Some w.in-Some.is) w.in_ok-numbered.ensures.ok)
      | in_default w ↦
          subst (λ (ys : List (PlacedData ℕ)). AreFirst places c.args.offset packages slots (i + 1) ys) (sym (ap (λ v. all_numbered v.items) w.all-is))
          (first-pass places c.args.offset packages slots i xs c.loop-slot.invariant (slice_get-get_or slots i _ c.loop-slot-test.true ∙ ap Some w.in_default.is))
    ]

pub returns-clause-ok : goal.returns-clause-ok
returns-clause-ok c = λ all begins.
    let places : List Place = c.args.numbers.now in
    let packages : List PackageData = c.args.linked.now in
    let slots : List (Option ℕ) = c.args.slots.now in
    let xs : List (PlacedData ℕ) = all_numbered c.loop-slot.all.items in
    let end = c.loop-slot-test.false in
    let most = c.loop-slot.auto.slot-index-end in
    let long = c.requires.slots.long in
    let is : c.loop-slot.slot-index ≡ length places = omega (arith, end, most, long) in
    are-numbered places c.args.offset packages slots xs c.requires.slots (subst (λ n. AreFirst places c.args.offset packages slots n xs) is c.loop-slot.invariant) all begins
