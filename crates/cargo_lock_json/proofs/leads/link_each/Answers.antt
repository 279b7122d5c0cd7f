use Rattle.cargo_lock_json.specs.Leads.{IsLinked}
use Rattle.cargo_lock_graph.proofs.Zipped.{zip-next}
use Rattle.cargo_lock_json.proofs.leads.link_each.Goals as goal

pub loop-package-preserved : goal.loop-package-preserved
loop-package-preserved c =
    zip-next (IsLinked c.args.groups.now.packages) c.args.packages.now c.loop-package.package-index c.package-item.result c.loop-package.linked.items c.push.new.self.items c.in_ok-link.field-0
    c.loop-package-test.true c.package-item.is c.loop-package.invariant c.in_ok-link.ensures c.in_ok-push.ensures.items
