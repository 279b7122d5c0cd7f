use Rattle.std.proofs.Common.{map, string_bytes, take}
use Rattle.std.specs.List.{AllZip}
use Rattle.cargo_lock_licenses.specs.Policy.{given_of}
use Rattle.cli_folder_commands.specs.Policy.{IsGivenBy}
use Rattle.cli_folder_commands.proofs.policy.all_given.Given as goal

-- what is read of the texts so far
abbrev pub invariant-loop-text : goal.invariant-loop-text
invariant-loop-text l = AllZip IsGivenBy (map (λ text. text.now) (take l.text-index l.texts)) (map given_of l.all.items)
