use Rattle.std.proofs.Common.{◌≡◌, map, take}
use Rattle.std.specs.Borrow.{Bor}
use Rattle.cargo_lock_parts.specs.Identity.{PackageData}
use Rattle.cargo_lock_query.specs.Lines.{packages_at}
use Rattle.cargo_lock_query.proofs.lines.packages_at.Given as goal

-- the packages of the nodes so far
abbrev pub invariant-loop-node : goal.invariant-loop-node
invariant-loop-node l = map (λ (p : Bor PackageData). p.now) l.packages.items ≡ packages_at l.graph.packages (take l.node-index l.nodes)
