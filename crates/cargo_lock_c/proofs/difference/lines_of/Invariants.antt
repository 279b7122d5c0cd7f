use Rattle.std.proofs.Common.{◌≡◌, map, take, string_bytes}
use Rattle.cargo_lock_diff.specs.Change.{change_of, changes_text}
use Rattle.cargo_lock_c.proofs.difference.lines_of.Given as goal

abbrev pub invariant-loop-change : goal.invariant-loop-change
invariant-loop-change l = string_bytes l.lines ≡ changes_text (map change_of (take l.change-index l.changes))
