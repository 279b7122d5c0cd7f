use Rattle.std.proofs.Common.{◌≡◌, ◌++◌, ℕ, List, drop, map}
use Rattle.std.specs.Borrow.{Bor}
use Rattle.std.specs.List.{take_while}
use Rattle.cargo_lock_layout.specs.Lines.{is_comment}
use Rattle.cargo_lock_layout.proofs.comments.add_comments.Given as goal

abbrev pub invariant-loop-line : goal.invariant-loop-line
invariant-loop-line l =
    map (λ (b : Bor (List ℕ)). b.now) l.initial.all.items ++ take_while is_comment (map (λ (b : Bor (List ℕ)). b.now) l.lines)
    ≡ map (λ (b : Bor (List ℕ)). b.now) l.all.items ++ take_while is_comment (drop l.line-index (map (λ (b : Bor (List ℕ)). b.now) l.lines))
