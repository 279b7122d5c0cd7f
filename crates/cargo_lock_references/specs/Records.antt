-- What contracts see of a package as its table has it, and of the metadata.
use Rattle.std.specs.Prelude.{ℕ, Bool, true, false, List, Option, option_map}
use Rattle.std.specs.Cmp.Lexicographic.{slice_cmp}
use Rattle.std.specs.Coded.{Coded, coded_ℕ, coded_list}
use Rattle.std.specs.FinMap.{FinMap, code, from_entries}
use Rattle.std.specs.Ordering.{nat_cmp}
use Rattle.semver.specs.Parse.{Parts}
use Rattle.cargo_lock_parts.specs.Identity.{Identity}
use Rattle.cargo_lock_parts.specs.Source.{MarkedSource, Source}
use Rattle.cargo_lock_references.specs.declared.version.ResolveVersion.{ResolveVersion}
use Rattle.cargo_lock_references.specs.declared.version.ResolveVersion.TheVariants.{V1, V2, V3, V4}
use Rattle.cargo_lock_references.specs.Reference.{Reference}

-- a package as its table has it: its references are not resolved yet
pub record EncodedPackage : Type 0 where
  pub name : List ℕ
  pub version : Parts
  pub source : Option MarkedSource
  pub checksum : Option (List ℕ)
  pub dependencies : List Reference
  pub replace : Option Reference

-- a source without its mark
abbrev pub unmarked_source : Option MarkedSource → Option Source
unmarked_source s = option_map (λ m. m.source) s

-- the identity of an encoded package
abbrev pub encoded_identity : EncodedPackage → Identity
encoded_identity e =
    record { name = e.name; version = e.version; source = unmarked_source e.source }

-- a map from texts to texts
abbrev pub Texts : Type 0
Texts = FinMap (slice_cmp nat_cmp) (List ℕ)

-- the pairs of a map, as the map that contracts use
abbrev pub texts_of : List (List ℕ × List ℕ) → Texts
texts_of pairs = from_entries pairs

-- the form in which the map is stored
abbrev pub texts_code : Coded Texts
texts_code = code (coded_list coded_ℕ) (coded_list coded_ℕ)

-- from V4 on Cargo escapes the references of git sources
abbrev pub is_escaped : ResolveVersion → Bool
is_escaped V1 = false
is_escaped V2 = false
is_escaped V3 = false
is_escaped V4 = true
