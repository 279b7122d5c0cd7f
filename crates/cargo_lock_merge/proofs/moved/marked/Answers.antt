use Rattle.std.proofs.Common.{◌⊎◌, List, refl, subst}
use Rattle.std.specs.Bool.{Decides}
use Rattle.cargo_lock_parts.specs.Identity.{PackageData}
use Rattle.cargo_lock_merge.specs.declared.moved.Named.{Named}
use Rattle.cargo_lock_merge.specs.Moved.{HasNamesake, IsMarkedMoved}
use Rattle.cargo_lock_graph.proofs.Zipped.{zip-next}
use Rattle.cargo_lock_merge.proofs.moved.marked.Goals as goal

pub loop-one-preserved : goal.loop-one-preserved
loop-one-preserved c =
    let packages : List PackageData = c.args.packages.now in
    let n : Named = c.one-item.result in
    zip-next (IsMarkedMoved packages) c.args.named.now c.loop-one.one-index n c.loop-one.all.items c.push.new.self.items _ c.loop-one-test.true c.one-item.is c.loop-one.invariant
    record {
      same = refl;
      shown = subst (λ (ps : List PackageData). Decides c.have_namesake.result (HasNamesake ps n.from ⊎ HasNamesake ps n.to)) c.in_ok-versions.ensures c.have_namesake.ensures;
    } c.in_ok-push.ensures.items
