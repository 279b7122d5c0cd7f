use Rattle.std.proofs.Common.{map, string_bytes, take}
use Rattle.std.specs.List.{AllZip}
use Rattle.cargo_lock_licenses.specs.Policy.{exemption_of}
use Rattle.cli_folder_commands.specs.Policy.{IsExemptionBy}
use Rattle.cli_folder_commands.proofs.policy.all_exemptions.Given as goal

-- what is read of the texts so far
abbrev pub invariant-loop-text : goal.invariant-loop-text
invariant-loop-text l = AllZip IsExemptionBy (map (λ text. text.now) (take l.text-index l.texts)) (map exemption_of l.all.items)
