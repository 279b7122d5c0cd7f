use Rattle.std.proofs.Common.{List, option_map, subst}
use Rattle.semver.specs.Identifiers.{parts_of}
use Rattle.cargo_lock_index.specs.Near.{IsIndexOf}
use Rattle.cargo_lock_references.specs.Index.{names_of, versions_of}
use Rattle.cargo_lock_references.proofs.IndexPlaces.{first-name, first-version}
use Rattle.cargo_lock_references.proofs.index.Indexed.first_place.Goals as goal

pub returns-in-None : goal.returns-in-None
returns-in-None g c =
    let identity = g.T.Identified.identity in
    first-name identity c.args.name.now (option_map (λ v. parts_of v.now) c.args.version) c.args.self.now c.name_alone.result c.first.result
    c.name_alone.ensures (rw c.in-None.is)
    (c.first.ensures (names_of identity c.args.self.now)
    (subst (λ (xs : List g.row.T.Denot). IsIndexOf (names_of identity xs) c.self.inside.names) c.self.view_is c.self.invariant.0))

pub returns-in-Some : goal.returns-in-Some
returns-in-Some g c =
    let identity = g.T.Identified.identity in
    first-version identity c.args.name.now (option_map (λ v. parts_of v.now) c.args.version) (parts_of c.in-Some.version.now) c.args.self.now c.name_and_version.result c.first-in-Some.result
    c.name_and_version.ensures (rw c.in-Some.is)
    (c.first-in-Some.ensures (versions_of identity c.args.self.now)
    (subst (λ (xs : List g.row.T.Denot). IsIndexOf (versions_of identity xs) c.self.inside.versions) c.self.view_is c.self.invariant.1))
