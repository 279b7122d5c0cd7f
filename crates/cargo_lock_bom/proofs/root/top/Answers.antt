use Rattle.std.proofs.Common.{◌≡◌, ◌∙◌, true, false, sym}
use Rattle.cargo_lock_bom.proofs.Tops.{no-top}
use Rattle.cargo_lock_bom.proofs.root.top.Goals as goal

pub returns-else-branch : goal.returns-else-branch
returns-else-branch c k =
    no-top c.args.graph.now c.in-Some.node (rw c.in-Some.is at c.in_ok-node.ensures)
    (λ leads. let e : true ≡ false = sym (c.in_ok-leads_to_members-in-Some.ensures.1 leads) ∙ c.if-branch.false in cc e) k
