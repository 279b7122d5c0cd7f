use Rattle.std.proofs.Common.{◌∙◌, ◌++◌, ◌∷◌, [], ℕ, List, ap, arith, length, refl}
use Rattle.lists.proofs.Places.{places-end}
use Rattle.cargo_lock_query.specs.Spec.{SpecData, SpecFits, spec_fits}
use Rattle.cargo_lock_query.proofs.Specified.{fitting-tested}
use Rattle.cargo_lock_query.proofs.spec.fitting.Goals as goal
use Rattle.cargo_lock_query.proofs.spec.fitting.Goals.{then-fits+in_ok-push, else-fits}

pub loop-place-preserved : goal.loop-place-preserved
loop-place-preserved c =
    let l = c.loop-place in
    let p = c.index-packages-place.result in
    let before : List ℕ = l.fitting.items in
    fitting-tested c.args.spec.now c.args.packages.now l.place p c.fits.result before _
    c.loop-place-test.true c.index-packages-place.is (c.fits.ensures ∙ ap (λ (s : SpecData). spec_fits s p) c.in_ok-parsed.ensures)
    (elim c.if-fits.branch [
      | then-fits+in_ok-push w ↦ rw (w.fitting-is, w.if-fits.true) (w.in_ok-push.ensures.items ∙ ap (λ (k : ℕ). before ++ k ∷ []) w.new.ensures)
      | else-fits w ↦ rw (w.fitting-is, w.if-fits.false) refl
    ]) l.invariant

pub returns : goal.returns
returns c =
    let packages = c.args.packages.now in
    let past = c.loop-place-test.false in
    let before = c.loop-place.auto.place-end in
    places-end (SpecFits c.args.spec.now packages) c.loop-place.place (length packages) c.loop-place.fitting.items c.loop-place.invariant (omega (arith, past, before))
