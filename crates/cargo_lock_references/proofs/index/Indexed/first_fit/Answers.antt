use Rattle.std.proofs.Common.{option_copied, option_map, ap}
use Rattle.semver.specs.Identifiers.{parts_of}
use Rattle.cargo_lock_references.specs.Reference.{Reference}
use Rattle.cargo_lock_references.specs.Index.{item_at}
use Rattle.cargo_lock_references.proofs.IndexPlaces.{fit-first}
use Rattle.cargo_lock_references.proofs.index.Indexed.first_fit.Goals as goal

pub returns : goal.returns
returns g c =
    fit-first g.T.Identified.identity c.args.reference.now c.reference.inside.name.now (option_map (λ r. parts_of r.now) c.reference.inside.version) c.args.self.now
    (item_at c.args.self.now c.first_place.result) (option_copied c.item_at.result)
    (ap (λ (f : Reference). f.name) c.reference.view_is) (ap (λ (f : Reference). f.version) c.reference.view_is)
    c.first_place.ensures c.item_at.ensures
