use Rattle.std.proofs.Common.{◌≡◌, drop}
use Rattle.cargo_lock_audit.specs.FrontMatter.{lines_at, title_in}
use Rattle.cargo_lock_audit.proofs.front_matter.title_in.Given as goal

-- the title is in the other lines
abbrev pub invariant-loop-line : goal.invariant-loop-line
invariant-loop-line l = title_in (lines_at (drop l.line-index l.lines)) ≡ title_in (lines_at l.lines)
