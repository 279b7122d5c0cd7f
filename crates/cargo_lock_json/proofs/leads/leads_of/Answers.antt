use Rattle.cargo_lock_json.specs.Leads.{IsLead}
use Rattle.cargo_lock_graph.proofs.Zipped.{zip-next}
use Rattle.cargo_lock_json.proofs.leads.leads_of.Goals as goal

pub loop-dependency-preserved : goal.loop-dependency-preserved
loop-dependency-preserved c =
    zip-next (IsLead c.args.groups.now.packages) c.args.dependencies.now c.loop-dependency.dependency-index c.dependency-item.result c.loop-dependency.leads.items c.push.new.self.items c.lead.result
    c.loop-dependency-test.true c.dependency-item.is c.loop-dependency.invariant c.lead.ensures c.in_ok-push.ensures.items
