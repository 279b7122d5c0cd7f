-- Where the dependencies of a package lead.
use Rattle.std.specs.Prelude.{◌≡◌, List, Option, MatchOption}
use Rattle.std.specs.List.{AllZip}
use Rattle.cargo_lock_parts.specs.Identity.{Identity, PackageData}
use Rattle.cargo_lock_graph.specs.Targets.{IsLost}
use Rattle.cargo_lock_edges.specs.Leads.{LeadsToPackage}
use Rattle.cargo_lock_parts.specs.Optional.{BothOrNone}
use Rattle.cargo_lock_json.specs.Linked.{LeadData, LinkedData}

-- the dependency leads to the place, or there is none because no package fits the dependency
abbrev pub IsLead : List PackageData → Identity → LeadData → Type 0
IsLead packages d lead = (lead.dependency ≡ d)
    × MatchOption lead.place (IsLost packages d) (LeadsToPackage packages d)

-- each dependency of the package is there with the place to which it leads, in the package's order
abbrev pub IsLinked : List PackageData → PackageData → LinkedData → Type 0
IsLinked packages p linked = (linked.listed ≡ p)
    × AllZip (IsLead packages) p.dependencies linked.leads

-- the root is linked, if there is a root
abbrev pub IsLinkedRoot : List PackageData → Option PackageData → Option LinkedData → Type 0
IsLinkedRoot packages = BothOrNone (IsLinked packages)
