use Rattle.std.proofs.Common.{◌≡◌, ◌++◌, drop}
use Rattle.cargo_lock_check.specs.Text.{with_carets, with_carets_after}
use Rattle.cargo_lock_check.proofs.text.with_carets.Given as goal

abbrev pub invariant-loop-at : goal.invariant-loop-at
invariant-loop-at l = l.plain.items ++ with_carets_after l.rest (drop l.at l.text) ≡ with_carets l.text
