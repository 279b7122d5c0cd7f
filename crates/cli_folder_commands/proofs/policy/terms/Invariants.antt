use Rattle.std.proofs.Common.{map, string_bytes, take}
use Rattle.std.specs.List.{AllZip}
use Rattle.cli_folder_commands.specs.Policy.{IsTermBy}
use Rattle.cli_folder_commands.proofs.policy.terms.Given as goal

-- what is read of the texts so far
abbrev pub invariant-loop-text : goal.invariant-loop-text
invariant-loop-text l = AllZip IsTermBy (map (λ text. text.now) (take l.text-index l.texts)) (map string_bytes l.terms.items)
