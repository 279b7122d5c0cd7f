use Rattle.std.proofs.Common.{◌∙◌, ℕ, List, ap, refl, slice_get, subst, sym}
use Rattle.std.specs.List.{Contains}
use Rattle.cargo_lock_merge_core.proofs.Moving.{merged-at}
use Rattle.cargo_lock_merge_core.proofs.moved.package_at.Goals as goal

pub returns-in-Some : goal.returns-in-Some
returns-in-Some c =
    let k = merged-at c.args.merged.now c.args.place c.in-Some.at _ (ap (λ (ns : List ℕ). slice_get ns c.in-Some.at) (sym c.requires.places) ∙ c.in-Some.ensures) in
    (_, k.0, k.1, refl)

pub returns-in-None : goal.returns-in-None
returns-in-None c = λ h. c.in-None.ensures (subst (λ (ns : List ℕ). Contains ns c.args.place) (sym c.requires.places) h)
