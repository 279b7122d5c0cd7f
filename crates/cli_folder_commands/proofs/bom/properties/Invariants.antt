use Rattle.std.proofs.Common.{map, take}
use Rattle.std.specs.List.{AllZip}
use Rattle.cargo_lock_bom.specs.Options.{property_of}
use Rattle.cli_folder_commands.specs.Bom.{IsPropertyBy}
use Rattle.cli_folder_commands.proofs.bom.properties.Given as goal

-- the properties of the texts so far
abbrev pub invariant-loop-text : goal.invariant-loop-text
invariant-loop-text l = AllZip IsPropertyBy (map (λ text. text.now) (take l.text-index l.texts)) (map property_of l.all.items)
