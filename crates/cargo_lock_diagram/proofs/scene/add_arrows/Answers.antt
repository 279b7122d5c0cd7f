use Rattle.std.proofs.Common.{◌∙◌, sym}
use Rattle.std.proofs.lemmas.Bool.{false≢true}
use Rattle.cargo_lock_diagram.proofs.Arrowing.{arrows-pass, arrows-put, is-marked, is-unmarked}
use Rattle.cargo_lock_diagram.proofs.scene.add_arrows.Goals as goal
use Rattle.cargo_lock_diagram.proofs.scene.add_arrows.Goals.{then-has_mark+in_ok-push, else-has_mark}

pub loop-target-preserved : goal.loop-target-preserved
loop-target-preserved c =
    elim c.if-has_mark.branch [
      | then-has_mark+in_ok-push w ↦
          rw w.arrows-is (arrows-put c.args.marks.now c.args.node c.args.targets.now c.loop-target.target-index c.target-item.result c.args.arrows.now.items c.loop-target.arrows.items w.push.new.self.items
          c.loop-target-test.true c.target-item.is (is-marked c.args.marks.now c.target-item.result (c.has_mark.ensures.0 w.if-has_mark.true)) c.loop-target.invariant w.in_ok-push.ensures.items)
      | else-has_mark w ↦
          rw w.arrows-is (arrows-pass c.args.marks.now c.args.node c.args.targets.now c.loop-target.target-index c.target-item.result c.args.arrows.now.items c.loop-target.arrows.items
          c.loop-target-test.true c.target-item.is (is-unmarked c.args.marks.now c.target-item.result (λ h. false≢true (sym w.if-has_mark.false ∙ c.has_mark.ensures.1 h))) c.loop-target.invariant)
    ]
