use Rattle.std.proofs.Common.{◌≡◌, ◌∙◌, ◌+◌, ◌<◌, ℕ, List, Some, ap, arith, length, refl, slice_get, subst, sym}
use Rattle.std.specs.List.{Contains}
use Rattle.std.proofs.lemmas.Option.{same_Some, slice_get_read}
use Rattle.cargo_lock_parts.specs.Identity.{PackageData}
use Rattle.cargo_lock_merge_core.specs.Places.{Place}
use Rattle.cargo_lock_merge_core.specs.Refusals.{IsFault, IsFaultFrom}
use Rattle.cargo_lock_merge_core.specs.Lists.{HasReplacement, IsReplaced}
use Rattle.cargo_lock_merge_core.specs.declared.numbered.Replaced.{Replaced}
use Rattle.cargo_lock_merge_core.proofs.Faults.{passed}
use Rattle.cargo_lock_merge_core.proofs.Slotting.{number-made, replaced-has, replaced-lost}
use Rattle.cargo_lock_merge_core.proofs.numbered.numbered_at.Goals as goal

pub returns-clause-ok : goal.returns-clause-ok
returns-clause-ok c =
    let places : List Place = c.args.numbers.now in
    let packages : List PackageData = c.args.linked.now in
    let at = c.args.at in
    let p : PackageData = c.index-packages-at.result in
    let low : at < length packages = subst (λ (ps : List PackageData). at < length ps) (sym c.requires.same) c.requires.at in
    let fits = c.requires.fits in
    let here : slice_get packages at ≡ Some p = ap (λ (ps : List PackageData). slice_get ps at) c.requires.same ∙ slice_get_read c.args.packages.now (length c.args.packages.now) at c.index-packages-at.result refl c.requires.at c.index-packages-at.is in
    let ts : List ℕ = c.in_ok-targets.targets.items in
    let targets = c.in_ok-targets.ensures.are p here in
    record {
      place = number-made places (c.args.offset + at) c.number.result (omega (arith, low, fits)) c.number.ensures;
      content = here;
      ascending = c.in_ok-dependencies.ensures.ascending;
      found = targets.found;
      dependencies = λ once n. (
        λ h. let r = (c.in_ok-dependencies.ensures.are n).0 h in
            (r.0, (targets.are once r.0).0 (subst (λ (ks : List ℕ). Contains ks r.0) c.deref.ensures.value r.1), r.2),
        λ h. (c.in_ok-dependencies.ensures.are n).1 (h.0, subst (λ (ks : List ℕ). Contains ks h.0) (sym c.deref.ensures.value) ((targets.are once h.0).1 h.1), h.2),
      );
      replacement =
          let r : Replaced = c.in_ok-replaced.replaced in
          let own : p ≡ c.«package».result.now = same_Some p c.«package».result.now (sym here ∙ c.«package».ensures) in
          let is : IsReplaced places c.args.offset packages p.replace r = subst (λ (q : PackageData). IsReplaced places c.args.offset packages q.replace r) (sym own) c.in_ok-replaced.ensures.ok in
          subst (HasReplacement places c.args.offset packages p.replace) (sym c.in_ok-replacement.ensures.ok.0)
          (replaced-has places c.args.offset packages p.replace r is c.in_ok-replacement.ensures.ok.1);
    }

pub returns-in_err-replacement-clause-err : goal.returns-in_err-replacement-clause-err
returns-in_err-replacement-clause-err c =
    let places : List Place = c.args.numbers.now in
    let packages : List PackageData = c.args.linked.now in
    let at = c.args.at in
    let p : PackageData = c.index-packages-at.result in
    let r : Replaced = c.in_ok-replaced.replaced in
    let here : slice_get packages at ≡ Some p = ap (λ (ps : List PackageData). slice_get ps at) c.requires.same ∙ slice_get_read c.args.packages.now (length c.args.packages.now) at c.index-packages-at.result refl c.requires.at c.index-packages-at.is in
    let own : p ≡ c.«package».result.now = same_Some p c.«package».result.now (sym here ∙ c.«package».ensures) in
    let is : IsReplaced places c.args.offset packages p.replace r = subst (λ (q : PackageData). IsReplaced places c.args.offset packages q.replace r) (sym own) c.in_ok-replaced.ensures.ok in
    passed (IsFaultFrom places c.args.offset packages) c.from_residual-in_err-replacement.result c.in_err-replacement.field-0.0 c.from_residual-in_err-replacement.ensures.1
    (λ all begins. subst (IsFault all packages) (sym c.in_err-replacement.ensures.err.1) (replaced-lost places c.args.offset packages at p r here is c.in_err-replacement.ensures.err.0))
