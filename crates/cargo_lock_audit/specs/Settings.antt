-- What an audit goes by, besides packages and advisories.
use Rattle.std.specs.Prelude.{ℕ, List, Option, None, Some, if◌then◌else◌}
use Rattle.cargo_lock_parts.specs.Source.{Source, is_registry}
use Rattle.cargo_lock_parts.specs.SourceReading.{source_of}
use Rattle.cargo_lock_parts.specs.Optional.{◌>>=◌}
use Rattle.cargo_lock_audit.specs.declared.settings.Settings.{Settings}
use Rattle.cargo_lock_audit.specs.Texts.{bytes_of_texts}

-- the registries whose packages count as those of crates.io, the ids and aliases of the advisories
-- that are ignored, and the kinds that are denied
pub record SettingsData : Type 0 where
  pub registries : List Source
  pub ignored : List (List ℕ)
  pub denied : List (List ℕ)

-- the data of settings of the program
abbrev pub settings_of : Settings → SettingsData
settings_of s = record {
  registries = s.registries.items;
  ignored = bytes_of_texts s.ignored.items;
  denied = bytes_of_texts s.denied.items;
}

-- the source, if it is that of a registry
abbrev pub registry_only : Source → Option Source
registry_only s = if is_registry s.kind then Some s else None

-- the registry that a text names as a lockfile has its sources
abbrev pub registry_of : List ℕ → Option Source
registry_of text = source_of text >>= registry_only
