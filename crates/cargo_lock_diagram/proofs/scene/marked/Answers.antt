use Rattle.std.proofs.Common.{◌∙◌, ◌+◌, ◌++◌, ◌∷◌, [], ℕ, Bool, List, length, ap, arith, refl, subst, sym}
use Rattle.std.proofs.lemmas.Bool.{false≢true}
use Rattle.lists.specs.Marks.{IsMarked}
use Rattle.lists.proofs.Places.{places-end, places-pass, places-put}
use Rattle.cargo_lock_diagram.proofs.scene.marked.Goals as goal
use Rattle.cargo_lock_diagram.proofs.scene.marked.Goals.{then-has_mark+in_ok-push, else-has_mark}

pub loop-place-preserved : goal.loop-place-preserved
loop-place-preserved c =
    let marks : List Bool = c.args.marks.now in
    let place : ℕ = c.loop-place.place in
    let nodes : List ℕ = c.loop-place.nodes.items in
    let is = c.new-node.ensures in
    elim c.if-has_mark.branch [
      | then-has_mark+in_ok-push w ↦
          rw w.nodes-is
          (places-put (IsMarked marks) place (place + 1) nodes w.push.new.self.items c.loop-place.invariant
          (subst (IsMarked marks) is (c.has_mark.ensures.0 w.if-has_mark.true)) refl
          (w.in_ok-push.ensures.items ∙ ap (λ (n : ℕ). nodes ++ n ∷ []) is))
      | else-has_mark w ↦
          rw w.nodes-is
          (places-pass (IsMarked marks) place (place + 1) nodes c.loop-place.invariant
          (λ h. false≢true (sym w.if-has_mark.false ∙ c.has_mark.ensures.1 (subst (IsMarked marks) (sym is) h))) refl)
    ]

pub returns : goal.returns
returns c =
    let low = c.loop-place-test.false in
    let high = c.loop-place.auto.place-end in
    places-end (IsMarked c.args.marks.now) c.loop-place.place (length c.args.marks.now) c.loop-place.nodes.items c.loop-place.invariant (omega arith)
