use Rattle.std.proofs.Common.{◌≡◌, ◌∙◌, ◌+◌, Some, false, true, slice_get, get_or, length, sym, ap, refl, arith}
use Rattle.std.proofs.lemmas.Option.{slice_get-get_or}
use Rattle.lists.proofs.Places.{places-put, places-pass, places-end}
use Rattle.cargo_lock_flaws.proofs.reach.unmarked.Goals as goal
use Rattle.cargo_lock_flaws.proofs.reach.unmarked.Goals.{then-not-mark+in_ok-push, else-not-mark}

pub loop-place-preserved : goal.loop-place-preserved
loop-place-preserved c =
    let marks = c.args.marks.now in
    let place = c.loop-place.place in
    let at : slice_get marks place ≡ Some (get_or marks place false) =
    slice_get-get_or marks place false c.loop-place-test.true in
    elim c.if-not-mark.branch [
      | then-not-mark+in_ok-push w ↦ rw w.places-is
          (places-put (λ k. slice_get marks k ≡ Some false) place
          (place + 1) c.loop-place.places.items w.push.new.self.items c.loop-place.invariant
          (at ∙ ap Some w.if-not-mark.true) refl w.in_ok-push.ensures.items)
      | else-not-mark w ↦ rw w.places-is
          (places-pass (λ k. slice_get marks k ≡ Some false) place
          (place + 1) c.loop-place.places.items c.loop-place.invariant
          (λ bare. let e : Some true ≡ Some false = sym (at ∙ ap Some w.if-not-mark.false)
          ∙ bare in cc e) refl)
    ]

pub returns : goal.returns
returns c =
    let low = c.loop-place-test.false in
    let high = c.loop-place.auto.place-end in
    places-end (λ k. slice_get c.args.marks.now k ≡ Some false) c.loop-place.place
    (length c.args.marks.now) c.loop-place.places.items c.loop-place.invariant
    (omega (arith, low, high))
