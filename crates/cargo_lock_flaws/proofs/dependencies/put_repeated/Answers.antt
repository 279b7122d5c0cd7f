use Rattle.std.proofs.Common.{◌≡◌, ◌↔◌, ◌<◌, ◌+◌, ◌∙◌, IsSome, List, Some, cond, ap, arith, length, refl, slice_get, subst, sym}
use Rattle.std.specs.BTreeMap.{get, is_at}
use Rattle.std.proofs.lemmas.Bool.{false≢true}
use Rattle.std.proofs.lemmas.Option.{slice_get_read}
use Rattle.std.specs.Prelude.{ℕ}
use Rattle.cargo_lock_parts.specs.Identity.{Identity, PackageData}
use Rattle.cargo_lock_parts.specs.PartialIdentity.{partial_identity_cmp}
use Rattle.cargo_lock_flaws.specs.Dependencies.{DoAscend, HoldsOfDependency, IsListedBefore, IsRepeatedAt, IsSameDependency}
use Rattle.cargo_lock_flaws.specs.Seen.{AreLastDependencies}
use Rattle.cargo_lock_flaws.proofs.DependencyPlaces.{next, next-package, pass, put, there}
use Rattle.cargo_lock_flaws.proofs.DependencySeen.{last-more, listed-known, none-listed}
use Rattle.cargo_lock_flaws.proofs.dependencies.put_repeated.Goals as goal
use Rattle.cargo_lock_flaws.proofs.dependencies.put_repeated.Goals.{then-is_some+in_ok-push, else-is_some}

pub returns-then-ascend : goal.returns-then-ascend
returns-then-ascend c =
    let packages : List PackageData = c.args.packages.now in
    let p : PackageData = c.index-packages-place.result in
    let here : slice_get packages c.args.place ≡ Some p = slice_get_read packages (length packages)
    c.args.place p refl c.requires.within c.index-packages-place.is in
    let ds : List Identity = c.as_slice-dependencies.result.now in
    let whole : ds ≡ p.dependencies = c.as_slice-dependencies.ensures.value
    ∙ ap (λ (q : PackageData). q.dependencies) c.«package».view_is in
    let up : DoAscend p.dependencies = subst DoAscend whole (c.ascend.ensures.0 c.if-ascend.true) in
    next (IsRepeatedAt packages) c.args.place 0 c.args.places.now.items
    (λ j h. absurd (none-listed p.dependencies up j
    ((there IsListedBefore packages c.args.place j p here).0 h))) c.requires.before

pub loop-at-preserved : goal.loop-at-preserved
loop-at-preserved c =
    let l = c.loop-at in
    let packages : List PackageData = c.args.packages.now in
    let place = c.args.place in
    let at = l.at in
    let p : PackageData = c.index-packages-place.result in
    let here : slice_get packages place ≡ Some p = slice_get_read packages (length packages) place p refl c.requires.within c.index-packages-place.is in
    let ds : List Identity = c.as_slice-dependencies.result.now in
    let whole : ds ≡ p.dependencies = c.as_slice-dependencies.ensures.value ∙ ap (λ (q : PackageData). q.dependencies) c.«package».view_is in
    let d : Identity = c.index-dependencies-at.result in
    let stands : slice_get ds at ≡ Some d = slice_get_read ds (length ds) at d refl c.loop-at-test.true c.index-dependencies-at.is in
    let tells : IsSome c.in_ok-before.before ↔ IsListedBefore ds at =
    listed-known ds at l.last d c.in_ok-before.before stands l.invariant.last
    (c.in_ok-before.ensures.old ∙ ap (λ k. get partial_identity_cmp l.last k) c.identity.ensures) in
    let last : AreLastDependencies ds (at + 1) c.insert.new.self =
    last-more ds at l.last c.insert.new.self d stands
    (λ q. c.in_ok-before.ensures.updates.0 q ∙ ap (λ k. cond (is_at (partial_identity_cmp k) q) (Some at) (get partial_identity_cmp l.last q)) c.identity.ensures)
    l.invariant.last in
    elim c.if-is_some.branch [
      | then-is_some+in_ok-push w ↦ record {
        last = last;
        told = put (IsRepeatedAt packages) place at l.places.items _ l.invariant.told
            ((there IsListedBefore packages place at p here).1
            (subst (λ (es : List Identity). IsListedBefore es at) whole (tells.0 (sym c.is_some.ensures ∙ w.if-is_some.true))))
            (rw w.places-is w.in_ok-push.ensures.items);
      }
      | else-is_some w ↦ record {
        last = last;
        told = rw w.places-is (pass (IsRepeatedAt packages) place at l.places.items l.invariant.told
            (λ h. false≢true (sym w.if-is_some.false ∙ c.is_some.ensures ∙ tells.1
            (subst (λ (es : List Identity). IsListedBefore es at) (sym whole) ((there IsListedBefore packages place at p here).0 h)))));
      }
    ]

pub returns : goal.returns
returns c =
    let p : PackageData = c.index-packages-place.result in
    let ds : List Identity = c.as_slice-dependencies.result.now in
    let whole : ds ≡ p.dependencies = c.as_slice-dependencies.ensures.value ∙ ap (λ (q : PackageData). q.dependencies) c.«package».view_is in
    let past = c.loop-at-test.false in
    next-package (λ d es j. (i : ℕ) × (i < j) × HoldsOfDependency (IsSameDependency d) es i) c.args.packages.now c.args.place c.loop-at.at p ds
    c.loop-at.places.items c.requires.within c.index-packages-place.is whole (omega (arith, past)) c.loop-at.invariant.told
