use Rattle.std.proofs.Common.{List, subst}
use Rattle.semver.specs.Identifiers.{parts_of}
use Rattle.cargo_lock_index.specs.Near.{IsIndexOf}
use Rattle.cargo_lock_parts.specs.Identity.{Identity, PackageData}
use Rattle.cargo_lock_graph.specs.Candidates.{keys_of}
use Rattle.cargo_lock_graph.proofs.BestAlike.{last-like}
use Rattle.cargo_lock_graph.proofs.targets.Candidates.last_with.Goals as goal

pub returns : goal.returns
returns c =
    let packages : List PackageData = c.args.self.now in
    let i : Identity = record { name = c.args.name.now; version = parts_of c.args.version.now; source = c.args.source.now } in
    let index : IsIndexOf (keys_of packages) c.self.inside.places = subst (λ (ps : List PackageData). IsIndexOf (keys_of ps) c.self.inside.places) c.self.view_is c.self.invariant in
    last-like packages i c.identity.result c.last.result c.identity.ensures (c.last.ensures (keys_of packages) index)
