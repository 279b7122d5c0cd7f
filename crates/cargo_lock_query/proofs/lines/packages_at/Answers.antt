use Rattle.std.proofs.Common.{◌∙◌, List, ap, map, sym}
use Rattle.std.specs.Borrow.{Bor}
use Rattle.std.proofs.lemmas.List.{map_push}
use Rattle.cargo_lock_parts.specs.Identity.{PackageData}
use Rattle.cargo_lock_query.proofs.Writing.{packages-pass, packages-put}
use Rattle.cargo_lock_query.proofs.lines.packages_at.Goals as goal
use Rattle.cargo_lock_query.proofs.lines.packages_at.Goals.{in-Some+in_ok-push, in_default}

pub loop-node-preserved : goal.loop-node-preserved
loop-node-preserved c =
    let packages : List PackageData = c.args.graph.now.packages in
    let now : Bor PackageData → PackageData = λ (b : Bor PackageData). b.now in
    elim c.match-node_weight.branch [
      | in-Some+in_ok-push w ↦
          rw w.packages-is
          (packages-put packages c.args.nodes.now c.loop-node.node-index c.node-item.result w.in-Some.one.now _ _ c.loop-node-test.true c.node-item.is
          (sym w.in-Some.ensures) c.loop-node.invariant (ap (map now) w.in_ok-push.ensures.items ∙ map_push now c.loop-node.packages.items w.in-Some.one))
      | in_default w ↦
          rw w.packages-is
          (packages-pass packages c.args.nodes.now c.loop-node.node-index c.node-item.result _ c.loop-node-test.true c.node-item.is (sym w.in_default.ensures) c.loop-node.invariant)
    ]
