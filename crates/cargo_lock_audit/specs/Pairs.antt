-- Packages, each with the advisories that concern it.
use Rattle.std.specs.Prelude.{[], ◌∷◌, List, if◌then◌else◌}
use Rattle.std.specs.List.{flat_map}
use Rattle.cargo_lock_parts.specs.Identity.{PackageData}
use Rattle.cargo_lock_parts.specs.Source.{Source}
use Rattle.cargo_lock_audit.specs.declared.pair.Pair.{Pair}
use Rattle.cargo_lock_audit.specs.Advisory.{AdvisoryData, concerns}

-- a package, and an advisory that concerns it
pub record PairData : Type 0 where
  pub content : PackageData
  pub advisory : AdvisoryData

-- the data of a pair of the program
abbrev pub advisory_pair_of : Pair → PairData
advisory_pair_of q = record { content = q.«package».now; advisory = q.advisory.now }

-- the pair of both, if the advisory concerns the package
abbrev pub pair_if : List Source → PackageData → AdvisoryData → List PairData
pair_if registries p a =
    if concerns registries a p then record { content = p; advisory = a } ∷ [] else []

-- the package with each advisory that concerns it, in the order of the advisories
abbrev pub advisory_pairs_of : List Source → List AdvisoryData → PackageData → List PairData
advisory_pairs_of registries advisories p = flat_map (pair_if registries p) advisories

-- each package with each advisory that concerns it, in the order of the packages, where those of
-- these registries count as those of crates.io
abbrev pub pairs : List Source → List PackageData → List AdvisoryData → List PairData
pairs registries packages advisories =
    flat_map (advisory_pairs_of registries advisories) packages
