-- Where dependencies lead.
use Rattle.std.proofs.Common.{◌≡◌, ◌<◌, inl, inr, ℕ, List, Option, None, Some, length, slice_get, subst}
use Rattle.cargo_lock_parts.specs.Identity.{Identity, PackageData, identity_of}
use Rattle.cargo_lock_graph.specs.Targets.{IsLastWith, IsLost}
use Rattle.cargo_lock_edges.specs.Leads.{LeadsToPackage, IsInItsPlace}
use Rattle.cargo_lock_edges.specs.Nearest.{IsNearestPackage}
use Rattle.cargo_lock_edges.proofs.NearestPlaces.{nearest-found, nearest-last, nearest-within}

-- a package stands for another one, so it is nearest to some dependency
stands-nearest : (packages : List PackageData) (d : Identity) (replace : Option Identity)
    (near place : ℕ) → IsNearestPackage packages d near → IsInItsPlace packages replace near place
    → (e : Identity) × IsNearestPackage packages e place
stands-nearest packages d None near place h same = (d, subst (IsNearestPackage packages d) same h)
stands-nearest packages d (Some r) near place h (inl mine) = (r, mine)
stands-nearest packages d (Some r) near place h (inr (lost, same)) =
    (d, subst (IsNearestPackage packages d) same h)

lead-nearest : (packages : List PackageData) (d : Identity) (place : ℕ) → LeadsToPackage packages d place
    → (e : Identity) × IsNearestPackage packages e place
lead-nearest packages d place h =
    let (p, here, stands) = h.stands in
    stands-nearest packages d p.replace h.near place h.nearest stands

pub lead-within : (packages : List PackageData) (d : Identity) (place : ℕ)
    → LeadsToPackage packages d place → place < length packages
lead-within packages d place h =
    let (e, nearest) = lead-nearest packages d place h in
    nearest-within packages e place nearest

pub lead-found : (packages : List PackageData) (d : Identity) (place : ℕ)
    → LeadsToPackage packages d place → ¬ IsLost packages d
lead-found packages d place h = nearest-found packages d h.near h.nearest

-- no later package has the identity of the one to which a dependency leads
pub lead-last : (packages : List PackageData) (d : Identity) (place : ℕ) (p : PackageData)
    → slice_get packages place ≡ Some p → LeadsToPackage packages d place
    → IsLastWith packages (identity_of p) (Some place)
lead-last packages d place p here h =
    let (e, nearest) = lead-nearest packages d place h in
    nearest-last packages e place p here nearest
