use Rattle.std.proofs.Common.{◌≡◌, ◌∙◌, ℕ, List, ap, rules}
use Rattle.std.specs.Borrow.{Bor}
use Rattle.std.proofs.Output.{has_written_append, has_written_of_eq}
use Rattle.cargo_lock_query.proofs.Rowing.{comma_text, listed-next, no-comma, one-comma}
use Rattle.cargo_lock_query.proofs.listing.ListedDisplay.fmt.Goals as goal
use Rattle.cargo_lock_query.proofs.listing.ListedDisplay.fmt.Goals.{then-place-eq0, else-place-eq0}

pub loop-place-preserved : goal.loop-place-preserved
loop-place-preserved g c = λ plain.
    let i : ℕ = c.loop-place.place in
    let comma : c.if-place-eq0.comma.now ≡ comma_text i = elim c.if-place-eq0.branch [
      | then-place-eq0 w ↦ ap (λ (b : Bor (List ℕ)). b.now) w.comma-is ∙ no-comma i w.if-place-eq0.true
      | else-place-eq0 w ↦ ap (λ (b : Bor (List ℕ)). b.now) w.comma-is ∙ one-comma i w.if-place-eq0.false
    ] in
    has_written_of_eq _ _ _ _ _ (listed-next c.deref-one-items.result.now i c.one-item.result c.if-place-eq0.comma.now c.loop-place-test.true c.one-item.is comma)
    (has_written_append _ _ _ _ _ _ (c.loop-place.invariant plain) (search rules))
