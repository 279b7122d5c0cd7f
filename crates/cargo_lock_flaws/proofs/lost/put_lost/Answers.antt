use Rattle.std.proofs.Common.{◌≡◌, ◌∙◌, List, Some, ap, arith, length, refl, slice_get, subst, sym}
use Rattle.std.proofs.lemmas.Bool.{false≢true}
use Rattle.std.proofs.lemmas.Option.{slice_get_read}
use Rattle.cargo_lock_parts.specs.Identity.{Identity, PackageData}
use Rattle.cargo_lock_graph.specs.Targets.{IsLost}
use Rattle.cargo_lock_flaws.specs.Dependencies.{HoldsOfDependency}
use Rattle.cargo_lock_flaws.specs.Lost.{IsLostAt}
use Rattle.cargo_lock_flaws.proofs.DependencyPlaces.{next-from, of-dependency, pass, put, there}
use Rattle.cargo_lock_flaws.proofs.lost.put_lost.Goals as goal
use Rattle.cargo_lock_flaws.proofs.lost.put_lost.Goals.{then-is_lost+in_ok-push, else-is_lost}

pub loop-at-preserved : goal.loop-at-preserved
loop-at-preserved c =
    let packages : List PackageData = c.args.groups.now.packages in
    let p : PackageData = c.args.«package».now in
    let place = c.args.place in
    let at = c.loop-at.at in
    let ds : List Identity = c.deref-dependency-items.result.now in
    let whole : ds ≡ p.dependencies = c.deref-dependency-items.ensures.value
    ∙ ap (λ (q : PackageData). q.dependencies) c.«package».view_is in
    let d : Identity = c.dependency-item.result in
    let here : slice_get p.dependencies at ≡ Some d =
    subst (λ (es : List Identity). slice_get es at ≡ Some d) whole
    (slice_get_read ds (length ds) at d refl c.loop-at-test.true c.dependency-item.is) in
    elim c.if-is_lost.branch [
      | then-is_lost+in_ok-push w ↦
          let lost = c.is_lost.ensures.0 w.if-is_lost.true in
          rw w.lost-is (put (IsLostAt packages) place at c.loop-at.lost.items w.push.new.self.items
          c.loop-at.invariant (p, c.requires.«package», (d, here, lost))
          w.in_ok-push.ensures.items)
      | else-is_lost w ↦
          rw w.lost-is (pass (IsLostAt packages) place at c.loop-at.lost.items c.loop-at.invariant
          (λ lost. false≢true (sym w.if-is_lost.false ∙ c.is_lost.ensures.1
          ((of-dependency (IsLost packages) p.dependencies at d here).0
          ((there (HoldsOfDependency (IsLost packages)) packages place at p c.requires.«package»).0
          lost)))))
    ]

pub returns : goal.returns
returns c =
    let packages : List PackageData = c.args.groups.now.packages in
    let p : PackageData = c.args.«package».now in
    let ds : List Identity = c.deref-dependency-items.result.now in
    let whole : ds ≡ p.dependencies = c.deref-dependency-items.ensures.value
    ∙ ap (λ (q : PackageData). q.dependencies) c.«package».view_is in
    let past = c.loop-at-test.false in
    let long = ap length whole in
    next-from (λ d ds j. IsLost packages d) packages c.args.place c.loop-at.at p
    c.loop-at.lost.items c.requires.«package» (omega (arith, past, long)) c.loop-at.invariant
