use Rattle.std.proofs.Common.{take}
use Rattle.std.specs.List.{AllZip}
use Rattle.cargo_lock_json.specs.Leads.{IsLinked}
use Rattle.cargo_lock_json.proofs.leads.link_each.Given as goal

abbrev pub invariant-loop-package : goal.invariant-loop-package
invariant-loop-package l = AllZip (IsLinked l.groups.packages) (take l.package-index l.packages) l.linked.items
