use Rattle.std.proofs.Common.{◌≡◌, ◌<◌, ℕ}
use Rattle.cargo_lock_check.specs.Text.{compared_at}
use Rattle.cargo_lock.specs.Texts.{texts_at}
use Rattle.cargo_lock_check.proofs.text.other_place.Given as goal

abbrev pub invariant-loop-place : goal.invariant-loop-place
invariant-loop-place l = (k : ℕ) → k < l.place → compared_at (texts_at l.written) k ≡ compared_at (texts_at l.wanted) k
