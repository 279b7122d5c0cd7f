use Rattle.std.proofs.Common.{◌∙◌, ◌+◌, ◌++◌, ℕ, List, ap, drop, map, append_assoc, sym}
use Rattle.std.specs.Borrow.{Bor}
use Rattle.cargo_lock_layout.specs.Lines.{others_than}
use Rattle.cargo_lock_layout.proofs.SeenLines.{others-more}
use Rattle.cargo_lock_layout.proofs.comments.add_others.Goals as goal

pub loop-line-preserved : goal.loop-line-preserved
loop-line-preserved c =
    c.loop-line.invariant
    ∙ ap (λ ls. map (λ (b : Bor (List ℕ)). b.now) c.loop-line.all.items ++ ls) (others-more c.args.own.now c.args.lines.now c.loop-line.line-index _ c.loop-line-test.true)
    ∙ sym (append_assoc (map (λ (b : Bor (List ℕ)). b.now) c.loop-line.all.items) _ _)
    ∙ ap (λ ls. ls ++ others_than c.args.own.now (map (λ (b : Bor (List ℕ)). b.now) (drop (c.loop-line.line-index + 1) c.args.lines.now))) (sym c.in_ok-add_unless.ensures)
