-- Packages with the places to which their dependencies lead.
use Rattle.std.specs.Prelude.{ℕ, List, Option, map, is_none}
use Rattle.std.specs.List.{filter, flat_map}
use Rattle.std.specs.Option.{option_to_list}
use Rattle.cargo_lock_parts.specs.Identity.{Identity, PackageData}

-- a dependency, and the place of a package
pub record LeadData : Type 0 where
  pub dependency : Identity
  pub place : Option ℕ

-- a package, and where its dependencies lead
pub record LinkedData : Type 0 where
  pub listed : PackageData
  pub leads : List LeadData

-- the places to which dependencies lead
abbrev pub places : List LeadData → List ℕ
places leads = flat_map (λ lead. option_to_list lead.place) leads

-- the dependencies that lead nowhere
abbrev pub unresolved : List LeadData → List Identity
unresolved leads = map (λ lead. lead.dependency) (filter (λ lead. is_none lead.place) leads)
