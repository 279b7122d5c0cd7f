use Rattle.std.proofs.Common.{◌∙◌, List, ap, sym}
use Rattle.cargo_lock_parts.specs.Identity.{PackageData}
use Rattle.cargo_lock_merge_core.specs.declared.numbers.Spot.{Spot}
use Rattle.cargo_lock_merge_core.specs.Numbers.{spot_packages, spot_place, spot_places}
use Rattle.cargo_lock_merge_core.specs.Places.{merge_place}
use Rattle.cargo_lock_merge_core.proofs.Numbering.{put-more}
use Rattle.cargo_lock_merge_core.proofs.numbers.put_spots.Goals as goal

pub loop-package-preserved : goal.loop-package-preserved
loop-package-preserved c =
    let l = c.loop-package in
    let ps : List PackageData = c.args.packages.now in
    let i = l.package-index in
    let p : PackageData = c.package-item.result in
    let s : Spot = c.in_ok-spot_of.field-0 in
    let items = c.in_ok-push.ensures.items in
    record {
      packages = ap spot_packages items
          ∙ put-more (λ (s : Spot). s.«package».now) (λ (p : PackageData). p) (spot_packages c.args.spots.now.items) l.spots.items ps i s p l.invariant.packages c.loop-package-test.true (sym c.package-item.is)
          c.in_ok-spot_of.ensures.«package»;
      places = λ all are. ap spot_places items
          ∙ put-more spot_place (merge_place all) (spot_places c.args.spots.now.items) l.spots.items ps i s p (l.invariant.places all are) c.loop-package-test.true (sym c.package-item.is)
          (c.in_ok-spot_of.ensures.place all are);
    }
