-- Packages whose dependencies are written as the packages to which they lead.
use Rattle.std.specs.Prelude.{◌≡◌, ◌⊎◌, ℕ, List}
use Rattle.std.specs.List.{AllZip}
use Rattle.cargo_lock_parts.specs.Identity.{Identity, PackageData, identity_of}
use Rattle.cargo_lock_graph.specs.Targets.{HoldsOf, IsLost}
use Rattle.cargo_lock_edges.specs.Leads.{LeadsToPackage}
use Rattle.cargo_lock_edges.specs.OwnGraph.{IsAlikeButForWords}

-- the second is the identity of a package to which the first leads
pub record IsOfLead (packages : List PackageData) (d e : Identity) : Type 0 where
  pub place : ℕ
  pub leads : LeadsToPackage packages d place
  pub is : HoldsOf (λ p. e ≡ identity_of p) packages place

-- so it is, or no package fits the dependency, which stays as it is
abbrev pub IsSettledAs : List PackageData → Identity → Identity → Type 0
IsSettledAs packages d e = IsOfLead packages d e ⊎ (IsLost packages d × (e ≡ d))

-- the second package is the first one with its dependencies settled
pub record IsSettledPackage (packages : List PackageData) (p q : PackageData) : Type 0 where
  pub alike : IsAlikeButForWords p q
  pub dependencies : AllZip (IsSettledAs packages) p.dependencies q.dependencies

-- so is each of these
abbrev pub AreSettled : List PackageData → List PackageData → Type 0
AreSettled packages settled = AllZip (IsSettledPackage packages) packages settled
