use Rattle.std.proofs.Common.{take, option_copied}
use Rattle.std.specs.Io.KnownBytes.{Appends}
use Rattle.cli_lockfile_commands.specs.List.{list_text}
use Rattle.cli_lockfile_commands.proofs.list.print_packages.Given as goal

-- the lines of the packages so far
abbrev pub invariant-loop-package : goal.invariant-loop-package
invariant-loop-package g l =
    Appends (g.W.Write.contents l.fn.out) (g.W.Write.contents l.out)
    (list_text l.detail.dependencies l.detail.sources (option_copied l.wanted) (take l.package-index l.packages))
