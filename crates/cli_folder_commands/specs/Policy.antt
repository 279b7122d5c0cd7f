-- The policy that the arguments of `licenses` name.
use Rattle.std.specs.Prelude.{◌≡◌, ℕ, List, Some, codes}
use Rattle.std.specs.List.{AllZip}
use Rattle.clap.specs.declared.parser.matches.Found.{Found}
use Rattle.cargo_lock_licenses.specs.Policy.{ExemptionData, GivenData, PolicyData}
use Rattle.cargo_lock_licenses.specs.Policy.{ReadsExemption, ReadsGiven}
use Rattle.cargo_lock_licenses.specs.Terms.{IsTerm}
use Rattle.cli_folder_commands.specs.Texts.{given_texts}

-- the text is this term; the words are this that is given, and this exemption
abbrev pub IsTermBy : List ℕ → List ℕ → Type 0
IsTermBy text term = (term ≡ text) × IsTerm text

abbrev pub IsGivenBy : List ℕ → GivenData → Type 0
IsGivenBy words given = ReadsGiven words (Some given)

abbrev pub IsExemptionBy : List ℕ → ExemptionData → Type 0
IsExemptionBy words exemption = ReadsExemption words (Some exemption)

-- the terms, what is given and the exemptions are those of the options, each in their order
pub record IsPolicy (found : Found) (policy : PolicyData) : Type 0 where
  pub allowed : AllZip IsTermBy (given_texts found (codes "allow")) policy.allowed
  pub given : AllZip IsGivenBy (given_texts found (codes "license")) policy.given
  pub exemptions : AllZip IsExemptionBy (given_texts found (codes "exempt")) policy.exemptions
