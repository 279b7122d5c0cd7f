use Rattle.std.proofs.Common.{◌≡◌, ◌++◌, ℕ, List, drop, map, string_bytes}
use Rattle.std.specs.Borrow.{Bor}
use Rattle.cargo_lock_lines.specs.Layout.{join_lines}
use Rattle.cargo_lock_layout.proofs.text.joined.Given as goal

abbrev pub invariant-loop-line : goal.invariant-loop-line
invariant-loop-line l =
    string_bytes l.text ++ join_lines (map (λ (b : Bor (List ℕ)). b.now) (drop l.line-index l.lines))
    ≡ join_lines (map (λ (b : Bor (List ℕ)). b.now) l.lines)
