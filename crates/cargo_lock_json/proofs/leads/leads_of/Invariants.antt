use Rattle.std.proofs.Common.{take}
use Rattle.std.specs.List.{AllZip}
use Rattle.cargo_lock_json.specs.Leads.{IsLead}
use Rattle.cargo_lock_json.proofs.leads.leads_of.Given as goal

abbrev pub invariant-loop-dependency : goal.invariant-loop-dependency
invariant-loop-dependency l = AllZip (IsLead l.groups.packages) (take l.dependency-index l.dependencies) l.leads.items
