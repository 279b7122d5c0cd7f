use Rattle.std.proofs.Common.{◌≡◌, ◌∙◌, List, Some, ap, arith, length, refl, slice_get, subst, sym}
use Rattle.std.proofs.lemmas.Bool.{false≢true}
use Rattle.std.proofs.lemmas.Option.{slice_get_read}
use Rattle.std.specs.declared.cmp.Ordering.TheVariants.{Greater}
use Rattle.std.specs.Prelude.{suc}
use Rattle.cargo_lock_parts.specs.Identity.{Identity, PackageData}
use Rattle.cargo_lock_flaws.specs.Dependencies.{HoldsOfDependency, IsAfterNext, IsDependencyMisplacedAt}
use Rattle.cargo_lock_order.specs.Order.{dependency_order}
use Rattle.cargo_lock_flaws.proofs.DependencyPlaces.{next-package, pass, put, there}
use Rattle.cargo_lock_flaws.proofs.dependencies.put_misplaced.Goals as goal
use Rattle.cargo_lock_flaws.proofs.dependencies.put_misplaced.Goals.{then-branch+in_ok-push, else-branch}

pub loop-at-preserved : goal.loop-at-preserved
loop-at-preserved c =
    let packages : List PackageData = c.args.packages.now in
    let place = c.args.place in
    let at = c.loop-at.at in
    let p : PackageData = c.index-packages-place.result in
    let here : slice_get packages place ≡ Some p = slice_get_read packages (length packages) place p refl c.requires.within c.index-packages-place.is in
    let ds : List Identity = c.as_slice-dependencies.result.now in
    let whole : ds ≡ p.dependencies = c.as_slice-dependencies.ensures.value ∙ ap (λ (q : PackageData). q.dependencies) c.«package».view_is in
    elim c.if-branch.branch [
      | then-branch+in_ok-push w ↦
          let found : IsAfterNext ds at = c.in_ok-is_misplaced.ensures.0 w.if-branch.true in
          rw w.places-is (put (IsDependencyMisplacedAt packages) place at c.loop-at.places.items w.push.new.self.items c.loop-at.invariant
          ((there IsAfterNext packages place at p here).1 (subst (λ (es : List Identity). IsAfterNext es at) whole found)) w.in_ok-push.ensures.items)
      | else-branch w ↦
          rw w.places-is (pass (IsDependencyMisplacedAt packages) place at c.loop-at.places.items c.loop-at.invariant
          (λ h. false≢true (sym w.if-branch.false ∙ c.in_ok-is_misplaced.ensures.1
          (subst (λ (es : List Identity). IsAfterNext es at) (sym whole) ((there IsAfterNext packages place at p here).0 h)))))
    ]

pub returns : goal.returns
returns c =
    let p : PackageData = c.index-packages-place.result in
    let ds : List Identity = c.as_slice-dependencies.result.now in
    let whole : ds ≡ p.dependencies = c.as_slice-dependencies.ensures.value ∙ ap (λ (q : PackageData). q.dependencies) c.«package».view_is in
    let past = c.loop-at-test.false in
    next-package (λ d es j. HoldsOfDependency (λ n. dependency_order d n ≡ Greater) es (suc j)) c.args.packages.now c.args.place c.loop-at.at p ds
    c.loop-at.places.items c.requires.within c.index-packages-place.is whole (omega (arith, past)) c.loop-at.invariant
