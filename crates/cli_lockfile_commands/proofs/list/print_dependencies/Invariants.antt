use Rattle.std.proofs.Common.{codes, take}
use Rattle.std.specs.Io.KnownBytes.{Appends}
use Rattle.std.specs.List.{flat_map}
use Rattle.cli_lockfile_commands.specs.List.{identity_line}
use Rattle.cli_lockfile_commands.proofs.list.print_dependencies.Given as goal

-- the lines of the dependencies so far
abbrev pub invariant-loop-dependency : goal.invariant-loop-dependency
invariant-loop-dependency g l =
    Appends (g.W.Write.contents l.fn.out) (g.W.Write.contents l.out)
    (flat_map (identity_line (codes "  - ") l.sources) (take l.dependency-index l.dependencies))
