use Rattle.std.proofs.Common.{List, subst}
use Rattle.cargo_lock_index.specs.Near.{IsIndexOf}
use Rattle.cargo_lock_references.specs.Index.{names_of}
use Rattle.cargo_lock_references.proofs.IndexPlaces.{only-name}
use Rattle.cargo_lock_references.proofs.index.Indexed.is_name_unique.Goals as goal

pub returns : goal.returns
returns g c =
    let identity = g.T.Identified.identity in
    only-name identity c.args.name.now c.args.self.now c.name_alone.result c.is_only.result c.name_alone.ensures
    (c.is_only.ensures (names_of identity c.args.self.now)
    (subst (λ (xs : List g.row.T.Denot). IsIndexOf (names_of identity xs) c.self.inside.names) c.self.view_is c.self.invariant.0))
