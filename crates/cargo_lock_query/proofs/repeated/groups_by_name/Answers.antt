use Rattle.std.proofs.Common.{◌∙◌, ℕ, List, ap, slice_get, sym}
use Rattle.cargo_lock_parts.specs.Identity.{PackageData}
use Rattle.lists.proofs.Groupings.{groups-none}
use Rattle.cargo_lock_query.specs.Groups.{IsNamedBy, name_cmp}
use Rattle.cargo_lock_query.proofs.Grouping.{name-put}
use Rattle.cargo_lock_query.proofs.repeated.groups_by_name.Goals as goal

pub loop-place-init : goal.loop-place-init
loop-place-init c =
    groups-none name_cmp (IsNamedBy c.args.graph.now.packages) c.new-groups.result c.new-groups.ensures.numbers c.new-groups.ensures.groups

pub loop-place-preserved : goal.loop-place-preserved
loop-place-preserved c =
    let packages : List PackageData = c.args.graph.now.packages in
    let p : PackageData = c.index-package.result.now in
    name-put packages c.loop-place.place p _ c.loop-place.groups c.put.new.self
    (ap (λ (k : ℕ). slice_get packages k) (sym c.new.ensures) ∙ sym c.index-package.ensures) (sym (ap (λ (q : PackageData). q.name) c.«package».view_is)) c.in_ok-put.ensures c.loop-place.invariant
