use Rattle.std.proofs.Common.{List, subst}
use Rattle.semver.specs.Identifiers.{parts_of}
use Rattle.cargo_lock_index.specs.Near.{IsIndexOf}
use Rattle.cargo_lock_references.specs.Index.{versions_of}
use Rattle.cargo_lock_references.proofs.IndexPlaces.{only-version}
use Rattle.cargo_lock_references.proofs.index.Indexed.is_version_unique.Goals as goal

pub returns : goal.returns
returns g c =
    let identity = g.T.Identified.identity in
    only-version identity c.args.name.now (parts_of c.args.version.now) c.args.self.now c.name_and_version.result c.is_only.result c.name_and_version.ensures
    (c.is_only.ensures (versions_of identity c.args.self.now)
    (subst (λ (xs : List g.row.T.Denot). IsIndexOf (versions_of identity xs) c.self.inside.versions) c.self.view_is c.self.invariant.1))
