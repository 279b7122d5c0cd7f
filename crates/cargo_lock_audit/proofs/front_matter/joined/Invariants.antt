use Rattle.std.proofs.Common.{◌≡◌, string_bytes, take}
use Rattle.cargo_lock_audit.specs.FrontMatter.{joined, lines_at}
use Rattle.cargo_lock_audit.proofs.front_matter.joined.Given as goal

-- the text of the lines so far
abbrev pub invariant-loop-line : goal.invariant-loop-line
invariant-loop-line l = string_bytes l.text ≡ joined (lines_at (take l.line-index l.lines))
