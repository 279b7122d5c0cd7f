use Rattle.std.proofs.Common.{◌∙◌, ℕ, List, None, ap, get_or, slice_get, subst, sym}
use Rattle.std.specs.List.{Contains}
use Rattle.cargo_lock_merge_core.specs.declared.placed.Placed.{Placed}
use Rattle.cargo_lock_merge_core.specs.Numbered.{all_data, placed_data}
use Rattle.cargo_lock_merge_core.specs.Placed.{HasAt, IsAt, PlacedData}
use Rattle.cargo_lock_merge_core.proofs.Moving.{found-at, none-at}
use Rattle.cargo_lock_merge_core.proofs.moved.Finder.at.Goals as goal

pub returns-in-Some : goal.returns-in-Some
returns-in-Some c =
    let xs : List Placed = c.self.inside.packages.now in
    let x : Placed = c.index-self-at.result in
    let is = c.deref.ensures.value ∙ c.self.invariant in
    subst (λ (ys : List (PlacedData ℕ)). HasAt ys c.args.place (placed_data (get_or xs c.in-Some.at x))) c.self.view_is
    (found-at xs c.args.place c.in-Some.at x (ap (λ (ns : List ℕ). slice_get ns c.in-Some.at) (sym is) ∙ c.in-Some.ensures))

pub returns-in-None : goal.returns-in-None
returns-in-None c =
    let xs : List Placed = c.self.inside.packages.now in
    let is = c.deref.ensures.value ∙ c.self.invariant in
    subst (λ (ys : List (PlacedData ℕ)). IsAt ys c.args.place None) c.self.view_is
    (none-at (all_data xs) c.args.place (λ h. c.in-None.ensures (subst (λ (ns : List ℕ). Contains ns c.args.place) (sym is) h)))
