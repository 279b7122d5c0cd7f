use Rattle.std.proofs.Common.{◌∙◌, ℕ, List, ap, map, rules}
use Rattle.std.specs.Borrow.{Bor}
use Rattle.std.proofs.lemmas.Fn.{dedup_same}
use Rattle.cargo_lock_layout.specs.Lines.{are_empty}
use Rattle.cargo_lock_layout.proofs.SeenLines.{dedup-map}
use Rattle.cargo_lock_layout.proofs.lines.leave_one_empty.Goals as goal

pub returns : goal.returns
returns c =
    ap (map (λ (b : Bor (List ℕ)). b.now)) (dedup_same _ (λ a b. are_empty a.now b.now) _ (λ x y b f' x' y' k. search rules) _ _ c.dedup_by.ensures.filtered)
    ∙ dedup-map (λ b. b.now) are_empty c.args.lines.now.items
