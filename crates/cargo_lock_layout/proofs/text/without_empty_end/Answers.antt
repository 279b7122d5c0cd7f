use Rattle.std.proofs.Common.{◌≡◌, ◌∙◌, ◌-◌, ℕ, List, ap, length, map, rules, true}
use Rattle.std.specs.Borrow.{Bor}
use Rattle.cargo_lock_layout.specs.Lines.{is_empty, line_or_empty}
use Rattle.cargo_lock_layout.proofs.SeenLines.{cut-empty}
use Rattle.cargo_lock_layout.proofs.text.without_empty_end.Goals as goal

pub returns-then-is_empty : goal.returns-then-is_empty
returns-then-is_empty c =
    let end = c.saturating_sub-end.result in
    let last : end ≡ length c.args.lines.now - 1 = search rules in
    let empty : is_empty (line_or_empty (map (λ (b : Bor (List ℕ)). b.now) c.args.lines.now) end) ≡ true = search rules in
    ap (map (λ (b : Bor (List ℕ)). b.now)) c.lines_before.ensures ∙ cut-empty c.args.lines.now end last empty
