use Rattle.std.proofs.Common.{◌∙◌, List, MatchOption, ap, subst, sym}
use Rattle.cargo_lock_index.specs.Alike.{AreAllAlike}
use Rattle.cargo_lock_index.specs.Near.{Placed}
use Rattle.cargo_lock_parts.specs.Identity.{PackageData}
use Rattle.cargo_lock_graph.specs.Candidates.{identity_as_key, keys_of}
use Rattle.cargo_lock_graph.specs.Targets.{IsLost, IsTarget}
use Rattle.cargo_lock_graph.proofs.BestAlike.{best-target, named-all}
use Rattle.cargo_lock_graph.proofs.targets.Candidates.best_place.Goals as goal

pub best_among-requires : goal.best_among-requires
best_among-requires c =
    let packages : List PackageData = c.self.inside.packages.now in
    let d = c.args.dependency.now in
    let entries : List Placed = c.alike-alike.result.now in
    let alike : AreAllAlike (identity_as_key d) (keys_of packages) entries =
    subst (λ k. AreAllAlike k (keys_of packages) entries) (c.identity.ensures ∙ ap identity_as_key c.dependency.view_is) (c.alike-alike.ensures (keys_of packages) c.self.invariant) in
    named-all packages d entries alike

pub returns : goal.returns
returns c =
    let packages : List PackageData = c.self.inside.packages.now in
    let d = c.args.dependency.now in
    let entries : List Placed = c.alike-alike.result.now in
    let alike : AreAllAlike (identity_as_key d) (keys_of packages) entries =
    subst (λ k. AreAllAlike k (keys_of packages) entries) (c.identity.ensures ∙ ap identity_as_key c.dependency.view_is) (c.alike-alike.ensures (keys_of packages) c.self.invariant) in
    subst (λ (ps : List PackageData). MatchOption c.place_of.result (IsLost ps d) (λ place. IsTarget ps d place)) c.self.view_is
    (subst (λ o. MatchOption o (IsLost packages d) (λ place. IsTarget packages d place)) (sym c.place_of.ensures)
    (best-target packages d entries c.best_among.result alike c.best_among.ensures))
