-- The settings that the arguments of `audit` name.
use Rattle.std.specs.Prelude.{◌≡◌, ℕ, List, Some, codes}
use Rattle.std.specs.List.{AllZip}
use Rattle.clap.specs.declared.parser.matches.Found.{Found}
use Rattle.cargo_lock_audit.specs.Settings.{SettingsData, registry_of}
use Rattle.cargo_lock_parts.specs.Source.{Source}
use Rattle.cli_folder_commands.specs.Texts.{given_texts}

-- the text names this registry
abbrev pub NamesRegistry : List ℕ → Source → Type 0
NamesRegistry text registry = registry_of text ≡ Some registry

-- the registries, the ids and aliases, and the kinds are those of the options, each in their order
pub record AreSettings (found : Found) (settings : SettingsData) : Type 0 where
  pub registries : AllZip NamesRegistry (given_texts found (codes "registry")) settings.registries
  pub ignored : settings.ignored ≡ given_texts found (codes "ignore")
  pub denied : settings.denied ≡ given_texts found (codes "deny")
