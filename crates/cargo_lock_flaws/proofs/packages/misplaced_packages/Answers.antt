use Rattle.std.proofs.Common.{◌∙◌, refl, sym}
use Rattle.std.proofs.lemmas.Bool.{false≢true}
use Rattle.cargo_lock_flaws.specs.Packages.{IsMisplaced}
use Rattle.lists.proofs.Places.{places-pass, places-put}
use Rattle.cargo_lock_flaws.proofs.packages.misplaced_packages.Goals as goal
use Rattle.cargo_lock_flaws.proofs.packages.misplaced_packages.Goals.{then-branch+in_ok-push, else-branch}

pub loop-place-preserved : goal.loop-place-preserved
loop-place-preserved c =
    let l = c.loop-place in
    let P = IsMisplaced c.args.packages.now in
    elim c.if-branch.branch [
      | then-branch+in_ok-push w ↦
          places-put P l.place _ l.places.items _ l.invariant (c.in_ok-is_misplaced.ensures.0 w.if-branch.true) refl
          (rw w.places-is w.in_ok-push.ensures.items)
      | else-branch w ↦
          rw w.places-is (places-pass P l.place _ l.places.items l.invariant (λ h. false≢true (sym w.if-branch.false ∙ c.in_ok-is_misplaced.ensures.1 h)) refl)
    ]
