use Rattle.std.proofs.Common.{List, ℕ, take}
use Rattle.std.specs.Io.KnownBytes.{Appends}
use Rattle.std.specs.List.{AllZip}
use Rattle.cli_lockfile_commands.specs.Tree.{IsDrawn, after_empty_lines}
use Rattle.cli_lockfile_commands.proofs.tree.print_more_trees.Given as goal

-- the trees of the nodes so far
abbrev pub invariant-loop-start : goal.invariant-loop-start
invariant-loop-start g l = (texts : List (List ℕ))
    × AllZip (IsDrawn l.style.exact l.style.direction l.graph) (take l.start-index l.starts) texts
    × Appends (g.W.Write.contents l.fn.out) (g.W.Write.contents l.out) (after_empty_lines texts)
