use Rattle.std.proofs.Common.{List, map, take, ℕ}
use Rattle.std.specs.Borrow.{Bor}
use Rattle.cli_lockfile_commands.specs.Graph.{AreFitting}
use Rattle.cli_lockfile_commands.proofs.graph.all_fitting.Given as goal

-- the packages that the specifications so far fit
abbrev pub invariant-loop-spec : goal.invariant-loop-spec
invariant-loop-spec l = AreFitting (map (λ (b : Bor (List ℕ)). b.now) (take l.spec-index l.specs)) l.packages l.starts.items
