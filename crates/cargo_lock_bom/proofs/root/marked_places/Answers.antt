use Rattle.std.proofs.Common.{◌≡◌, ◌∙◌, ◌+◌, true, false, length, refl, sym, arith}
use Rattle.lists.specs.Marks.{IsMarked}
use Rattle.lists.proofs.Places.{places-end, places-pass, places-put}
use Rattle.cargo_lock_bom.proofs.root.marked_places.Goals as goal
use Rattle.cargo_lock_bom.proofs.root.marked_places.Goals.{then-is_marked+in_ok-push, else-is_marked}

pub loop-place-preserved : goal.loop-place-preserved
loop-place-preserved c =
    let place = c.loop-place.place in
    let marks = c.args.marks.now in
    elim c.if-is_marked.branch [
      | then-is_marked+in_ok-push w ↦ rw w.places-is
          (places-put (IsMarked marks) place (place + 1) c.loop-place.places.items w.push.new.self.items c.loop-place.invariant
          (c.is_marked.ensures.0 w.if-is_marked.true) refl w.in_ok-push.ensures.items)
      | else-is_marked w ↦ rw w.places-is
          (places-pass (IsMarked marks) place (place + 1) c.loop-place.places.items c.loop-place.invariant
          (λ mark. let e : true ≡ false = sym (c.is_marked.ensures.1 mark) ∙ w.if-is_marked.false in cc e) refl)
    ]

pub returns : goal.returns
returns c =
    let low = c.loop-place-test.false in
    let high = c.loop-place.auto.place-end in
    places-end (IsMarked c.args.marks.now) c.loop-place.place (length c.args.marks.now) c.loop-place.places.items c.loop-place.invariant (omega (arith, low, high))
