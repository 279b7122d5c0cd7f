use Rattle.std.proofs.Common.{◌≡◌, true, false, IsTrue, ◌<◌, ◌+◌, ◌-◌, length, get_or, refl, sym, ◌∙◌, arith}
use Rattle.std.proofs.lemmas.List.Elements.{at_read}
use Rattle.cargo_lock_diff.specs.Pairing.{StandsOnce}
use Rattle.cargo_lock_diff.specs.Placing.{are_alike}
use Rattle.cargo_lock_diff.proofs.Orders.{placed_total}
use Rattle.cargo_lock_diff.proofs.Alone.{alone, tied-before, tied-after}
use Rattle.cargo_lock_diff.proofs.matching.is_alone.Goals as goal
use Rattle.cargo_lock_diff.proofs.matching.is_alone.Goals.{else-place-gt0-via-then-place-gt0+else-tie, else-place-gt0-via-else-place-gt0, else-place-sorted-via-then-place-sorted+else-tie-2, else-place-sorted-via-else-place-sorted}

pub returns-then-tie : goal.returns-then-tie
returns-then-tie c =
    let xs = c.args.sorted.now in
    let x = c.index-sorted-place.result in
    at_read xs (λ z. (IsTrue false → StandsOnce (are_alike c.args.likeness) z xs) × (StandsOnce (are_alike c.args.likeness) z xs → IsTrue false)) c.args.place x
    c.requires.within c.index-sorted-place.is (
      (λ h. cc h),
      λ h. absurd (tied-before (placed_total c.args.likeness) xs c.args.place x c.index-sorted-place-then-place-gt0.result
          (omega arith) c.requires.within c.index-sorted-place.is c.index-sorted-place-then-place-gt0.is (sym c.tie.ensures ∙ c.if-tie.true) h),
    )

pub returns-then-tie-2 : goal.returns-then-tie-2
returns-then-tie-2 c =
    let xs = c.args.sorted.now in
    let x = c.index-sorted-place.result in
    at_read xs (λ z. (IsTrue false → StandsOnce (are_alike c.args.likeness) z xs) × (StandsOnce (are_alike c.args.likeness) z xs → IsTrue false)) c.args.place x
    c.requires.within c.index-sorted-place.is (
      (λ h. cc h),
      λ h. absurd (tied-after (placed_total c.args.likeness) xs c.args.place x c.index-sorted-place-then-place-sorted.result
          c.if-place-sorted.true c.index-sorted-place.is c.index-sorted-place-then-place-sorted.is (sym c.tie-then-place-sorted.ensures ∙ c.if-tie-2.true) h),
    )

pub returns : goal.returns
returns c =
    let xs = c.args.sorted.now in
    let x = c.index-sorted-place.result in
    let same = are_alike c.args.likeness in
    let before : 0 < c.args.place → same (get_or xs (c.args.place - 1) x) x ≡ false = elim c.else-place-gt0.branch [
      | else-place-gt0-via-then-place-gt0+else-tie w ↦ λ some. at_read xs (λ z. same z x ≡ false) (c.args.place - 1) w.index-sorted-place-then-place-gt0.result
          (omega (arith, c.requires.within)) w.index-sorted-place-then-place-gt0.is (sym w.tie.ensures ∙ w.if-tie.false) x
      | else-place-gt0-via-else-place-gt0 w ↦ λ some. absurd (omega (arith, w.if-place-gt0.false, some))
    ] in
    let after : c.args.place + 1 < length xs → same x (get_or xs (c.args.place + 1) x) ≡ false = elim c.else-place-sorted.branch [
      | else-place-sorted-via-then-place-sorted+else-tie-2 w ↦ λ some. at_read xs (λ z. same x z ≡ false) (c.args.place + 1) w.index-sorted-place-then-place-sorted.result
          some w.index-sorted-place-then-place-sorted.is (sym w.tie-then-place-sorted.ensures ∙ w.if-tie-2.false) x
      | else-place-sorted-via-else-place-sorted w ↦ λ some. absurd (omega (arith, w.if-place-sorted.false, some))
    ] in
    at_read xs (λ z. (IsTrue true → StandsOnce same z xs) × (StandsOnce same z xs → IsTrue true)) c.args.place x
    c.requires.within c.index-sorted-place.is
    ((λ h. alone (placed_total c.args.likeness) xs c.requires.sorted c.args.place x c.requires.within c.index-sorted-place.is before after), λ h. refl)
