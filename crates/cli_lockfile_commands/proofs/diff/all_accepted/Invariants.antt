use Rattle.std.proofs.Common.{map, take}
use Rattle.std.specs.List.{AllZip}
use Rattle.cli_lockfile_commands.specs.Diff.{IsAcceptedBy}
use Rattle.cli_lockfile_commands.proofs.diff.all_accepted.Given as goal

-- what the words so far name
abbrev pub invariant-loop-word : goal.invariant-loop-word
invariant-loop-word l = AllZip IsAcceptedBy (map (λ word. word.now) (take l.word-index l.words)) l.all.items
