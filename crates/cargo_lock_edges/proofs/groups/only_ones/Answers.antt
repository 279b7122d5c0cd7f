use Rattle.std.proofs.Common.{◌∙◌, List, ap, map}
use Rattle.std.proofs.lemmas.List.{take_all}
use Rattle.cargo_lock_parts.specs.Identity.{PackageData}
use Rattle.cargo_lock_edges.specs.Groups.{is_only_one}
use Rattle.cargo_lock_edges.proofs.OnlyOnes.{marks-more, only-marked}
use Rattle.cargo_lock_edges.proofs.groups.only_ones.Goals as goal

pub loop-place-preserved : goal.loop-place-preserved
loop-place-preserved c =
    let packages : List PackageData = c.args.packages.now in
    marks-more (is_only_one packages) packages c.loop-place.place c.index-packages-place.result
    c.loop-place.only.items c.push.new.self.items c.is_only.result c.loop-place-test.true
    c.index-packages-place.is c.loop-place.invariant
    (c.is_only.ensures packages c.requires) c.in_ok-push.ensures.items

pub returns : goal.returns
returns c =
    let packages : List PackageData = c.args.packages.now in
    only-marked packages c.loop-place.only.items (c.loop-place.invariant
    ∙ ap (map (is_only_one packages))
    (take_all c.loop-place.place packages c.loop-place-test.false))
