use Rattle.std.proofs.Common.{◌∙◌, ap}
use Rattle.std.specs.List.{filter}
use Rattle.std.specs.Ordering.{is_eq}
use Rattle.cargo_lock_index.specs.Alike.{alike_cmp}
use Rattle.cargo_lock_index.specs.Near.{Placed}
use Rattle.cargo_lock_index.proofs.Alike.{alike-entries}
use Rattle.cargo_lock_index.proofs.places.Places.alike.Goals as goal

pub returns : goal.returns
returns c = λ keys index.
    let q : Placed = c.of.result in
    let entries = c.deref.ensures.value ∙ c.self.view_is in
    alike-entries keys c.args.key c.args.self.now c.alike_among.result.now q c.of.ensures
    (c.alike_among.ensures ∙ ap (filter (λ (e : Placed). is_eq (alike_cmp e.key q.key))) entries) index
