use Rattle.std.proofs.Common.{◌≡◌, List, Some, arith, length, refl, slice_get}
use Rattle.std.proofs.lemmas.Option.{slice_get_read}
use Rattle.cargo_lock_parts.specs.Identity.{PackageData}
use Rattle.cargo_lock_edges.proofs.GroupsAscend.{ascend-none}
use Rattle.cargo_lock_edges.proofs.Grouping.{groups-pass, groups-step}
use Rattle.cargo_lock_edges.proofs.groups.grouped.Goals as goal
use Rattle.cargo_lock_edges.proofs.groups.grouped.Goals.{then-not-is_marked+in_ok-put_package, else-not-is_marked}

pub loop-place-init : goal.loop-place-init
loop-place-init c = record {
  grouped = λ k p low at bare. absurd (omega (arith, low));
  ascend = ascend-none c.new-groups.result c.new-groups.ensures.groups;
}

pub loop-place-preserved : goal.loop-place-preserved
loop-place-preserved c =
    let packages : List PackageData = c.args.packages.now in
    let p : PackageData = c.index-packages-place.result in
    let place = c.loop-place.place in
    let here : slice_get packages place ≡ Some p = slice_get_read packages (length packages) place p
    refl c.loop-place-test.true c.index-packages-place.is in
    elim c.if-not-is_marked.branch [
      | then-not-is_marked+in_ok-put_package w ↦ rw w.groups-is
          (groups-step packages c.args.only.now place p c.loop-place.groups w.put_package.new.groups
          here w.in_ok-put_package.ensures c.loop-place.invariant)
      | else-not-is_marked w ↦ rw w.groups-is
          (groups-pass packages c.args.only.now place c.loop-place.groups
          (c.is_marked.ensures.0 w.if-not-is_marked.false) c.loop-place.invariant)
    ]
