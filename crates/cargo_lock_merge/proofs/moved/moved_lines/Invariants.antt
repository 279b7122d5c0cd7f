use Rattle.std.proofs.Common.{◌≡◌, string_bytes, take}
use Rattle.cargo_lock_merge.specs.Lines.{moved_lines}
use Rattle.cargo_lock_merge.proofs.moved.moved_lines.Given as goal

-- the lines so far
abbrev pub invariant-loop-one : goal.invariant-loop-one
invariant-loop-one l = string_bytes l.lines ≡ moved_lines (take l.one-index l.moved)
