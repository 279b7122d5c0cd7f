use Rattle.std.proofs.Common.{◌≡◌, ◌<◌, ℕ, List, [], MatchOption, Option, length, subst, sym}
use Rattle.std.specs.List.{All, AllZip}
use Rattle.std.proofs.lemmas.List.Elements.{All-nil, All-push}
use Rattle.std.proofs.lemmas.Option.{slice_get_within}
use Rattle.cargo_lock_parts.specs.Identity.{Identity, PackageData}
use Rattle.cargo_lock_graph.proofs.Zipped.{zip-next}
use Rattle.cargo_lock_graph.specs.Targets.{IsLost}
use Rattle.cargo_lock_merge_core.specs.Linked.{IsResolved, RefersTo}
use Rattle.cargo_lock_merge_core.proofs.Linking.{refers-within, resolved-found}
use Rattle.cargo_lock_merge_core.proofs.linked.Linked.targets_of.Goals as goal

pub loop-dependency-init : goal.loop-dependency-init
loop-dependency-init c =
    let packages : List PackageData = c.args.self.now in
    let empty : c.in_ok-targets.targets.items ≡ [] = c.in_ok-targets.ensures.items in
    record {
      zip = subst (λ (ks : List ℕ). AllZip (RefersTo packages) [] ks) (sym empty) tt;
      within = subst (λ (ks : List ℕ). All (λ k. k < length packages) ks) (sym empty)
          (All-nil (λ k. k < length packages));
    }

pub unreachable-requires : goal.unreachable-requires
unreachable-requires c =
    let packages : List PackageData = c.args.self.now in
    let i : Identity = c.dependency-item.result in
    resolved-found packages i
    (subst (IsResolved packages) (sym c.dependency-item.is)
    (c.requires c.loop-dependency.dependency-index i c.loop-dependency-test.true))
    (subst (λ (o : Option ℕ). MatchOption o (IsLost packages i) (RefersTo packages i))
    c.in-None.is c.in_ok-at.ensures.ok)

pub loop-dependency-preserved : goal.loop-dependency-preserved
loop-dependency-preserved c =
    let packages : List PackageData = c.args.self.now in
    let i : Identity = c.dependency-item.result in
    let at = c.in-Some.at in
    let refers : RefersTo packages i at =
    subst (λ (o : Option ℕ). MatchOption o (IsLost packages i) (RefersTo packages i))
    c.in-Some.is c.in_ok-at.ensures.ok in
    let there = refers-within packages i at refers in
    record {
      zip = zip-next (RefersTo packages) c.args.dependencies.now
          c.loop-dependency.dependency-index i
          c.loop-dependency.targets.items c.push.new.self.items at c.loop-dependency-test.true
          c.dependency-item.is c.loop-dependency.invariant.zip refers c.in_ok-push-in-Some.ensures.items;
      within = subst (λ (ks : List ℕ). All (λ k. k < length packages) ks)
          (sym c.in_ok-push-in-Some.ensures.items)
          (All-push (λ k. k < length packages) c.loop-dependency.targets.items at
          c.loop-dependency.invariant.within (slice_get_within packages at there.0 there.1));
    }
