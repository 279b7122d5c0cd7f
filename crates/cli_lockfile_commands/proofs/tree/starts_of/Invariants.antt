use Rattle.std.proofs.Common.{map, take}
use Rattle.std.specs.List.{AllZip}
use Rattle.cli_lockfile_commands.specs.Tree.{IsStartOf}
use Rattle.cli_lockfile_commands.proofs.tree.starts_of.Given as goal

-- the nodes of the specifications so far
abbrev pub invariant-loop-spec : goal.invariant-loop-spec
invariant-loop-spec l = AllZip (λ spec start. IsStartOf l.graph.packages spec.now start) (take l.spec-index l.specs) l.starts.items
