use Rattle.std.proofs.Common.{◌≡◌, drop}
use Rattle.cargo_lock.specs.Translation.{translate_in_turn}
use Rattle.cargo_lock.proofs.lockfile.Lockfile.translate_in_turn.Given as goal

abbrev pub invariant-loop-format : goal.invariant-loop-format
invariant-loop-format l = translate_in_turn (drop l.format-index l.formats) l.lockfile ≡ translate_in_turn l.formats l.self
