use Rattle.std.proofs.Common.{map, take}
use Rattle.std.specs.List.{AllZip}
use Rattle.cli_folder_commands.specs.Settings.{NamesRegistry}
use Rattle.cli_folder_commands.proofs.settings.registries.Given as goal

-- the registries of the texts so far
abbrev pub invariant-loop-text : goal.invariant-loop-text
invariant-loop-text l = AllZip NamesRegistry (map (λ text. text.now) (take l.text-index l.texts)) l.all.items
