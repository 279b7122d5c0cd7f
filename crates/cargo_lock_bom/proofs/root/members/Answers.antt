use Rattle.std.proofs.Common.{◌≡◌, ◌∙◌, ◌+◌, ℕ, true, false, length, sym, ap, refl, arith}
use Rattle.cargo_lock_bom.specs.Root.{is_member}
use Rattle.lists.proofs.Places.{places-put, places-pass, places-end}
use Rattle.cargo_lock_bom.proofs.root.members.Goals as goal
use Rattle.cargo_lock_bom.proofs.root.members.Goals.{then-is_member+in_ok-push, else-is_member}

pub loop-node-preserved : goal.loop-node-preserved
loop-node-preserved c =
    let packages = c.args.graph.now.packages in
    let node = c.loop-node.node in
    let P : ℕ → Type 0 = λ k. is_member packages k ≡ true in
    let is = c.is_member.ensures ∙ ap (is_member packages) c.new.ensures in
    elim c.if-is_member.branch [
      | then-is_member+in_ok-push w ↦ rw w.members-is
          (places-put P node (node + 1) c.loop-node.members.items w.push.new.self.items c.loop-node.invariant (sym is ∙ w.if-is_member.true) refl w.in_ok-push.ensures.items)
      | else-is_member w ↦ rw w.members-is
          (places-pass P node (node + 1) c.loop-node.members.items c.loop-node.invariant (λ bare. let e : true ≡ false = sym bare ∙ sym is ∙ w.if-is_member.false in cc e) refl)
    ]

pub returns : goal.returns
returns c =
    let packages = c.args.graph.now.packages in
    let low = c.loop-node-test.false in
    let high = c.loop-node.auto.node-end in
    let end = c.node_count-node-end.ensures in
    places-end (λ k. is_member packages k ≡ true) c.loop-node.node (length packages) c.loop-node.members.items c.loop-node.invariant (omega (arith, low, high, end))
