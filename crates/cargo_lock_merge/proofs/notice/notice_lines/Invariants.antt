use Rattle.std.proofs.Common.{◌≡◌, string_bytes, take}
use Rattle.cargo_lock_merge.specs.Lines.{notice_lines}
use Rattle.cargo_lock_merge.proofs.notice.notice_lines.Given as goal

-- the lines so far
abbrev pub invariant-loop-one : goal.invariant-loop-one
invariant-loop-one l = string_bytes l.lines ≡ notice_lines (take l.one-index l.notices)
