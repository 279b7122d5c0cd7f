-- Which packages of a lockfile are compared with advisories, and which are not.
use Rattle.std.specs.Prelude.{◌≡◌, ◌↔◌, ◌==◌, ◌&&◌, ◌++◌, [], ◌∷◌, ℕ, Bool, true, false, List}
use Rattle.std.specs.Prelude.{Option, None, Some, IsPermutation, codes, count_by, decimal, filter}
use Rattle.std.specs.Prelude.{if◌then◌else◌, length, map, not}
use Rattle.std.specs.Borrow.{Bor}
use Rattle.std.specs.List.{Contains}
use Rattle.cargo_lock_parts.specs.Identity.{PackageData}
use Rattle.cargo_lock_parts.specs.Source.{Source, is_git, is_registry}
use Rattle.cargo_lock_audit.specs.declared.coverage.Coverage.{Coverage}
use Rattle.cargo_lock_audit.specs.declared.coverage.Origin.{Origin}
use Rattle.cargo_lock_audit.specs.declared.coverage.Origin.TheVariants as origin
use Rattle.cargo_lock_audit.specs.Advisory.{counts_as_crates_io}

-- the packages that are compared, those that are not, and how many advisories the database has
pub record CoverageData : Type 0 where
  pub compared : List PackageData
  pub not_compared : List PackageData
  pub advisories : ℕ

-- the package at a reference of the program
abbrev pub package_by_place : Bor PackageData → PackageData
package_by_place p = p.now

-- the data of the program
abbrev pub coverage_data_of : Coverage → CoverageData
coverage_data_of c = record {
  compared = map package_by_place c.compared.items;
  not_compared = map package_by_place c.not_compared.items;
  advisories = c.advisories;
}

-- a package is compared if it counts as one of crates.io, as those of these registries do
abbrev pub is_compared : List Source → PackageData → Bool
is_compared registries p = counts_as_crates_io registries p.source

-- it is not compared otherwise
abbrev pub is_not_compared : List Source → PackageData → Bool
is_not_compared registries p = not (is_compared registries p)

-- which packages are compared with a database of so many advisories
abbrev pub coverage_of : List Source → List PackageData → ℕ → CoverageData
coverage_of registries packages advisories = record {
  compared = filter (is_compared registries) packages;
  not_compared = filter (is_not_compared registries) packages;
  advisories = advisories;
}

-- the package, if it is compared
abbrev pub compared_if : List Source → PackageData → List PackageData
compared_if registries p = if is_compared registries p then p ∷ [] else []

-- the package, if it is not compared
abbrev pub not_compared_if : List Source → PackageData → List PackageData
not_compared_if registries p = if is_compared registries p then [] else p ∷ []

-- ---- the line

-- the source is of this origin: a repository, a registry, or else a folder
abbrev pub is_named_by : Origin → Source → Bool
is_named_by origin.Git s = is_git s.kind
is_named_by origin.Registry s = is_registry s.kind
is_named_by origin.Folder s = not (is_git s.kind) && not (is_registry s.kind)
is_named_by origin.Unsaid s = false

-- no source is named
abbrev pub is_unsaid : Origin → Bool
is_unsaid origin.Git = false
is_unsaid origin.Registry = false
is_unsaid origin.Folder = false
is_unsaid origin.Unsaid = true

-- a package with this source, or with none, comes from there
abbrev pub is_from : Origin → Option Source → Bool
is_from o None = is_unsaid o
is_from o (Some s) = is_named_by o s

-- how many packages come from there
abbrev pub count_from : Origin → List PackageData → ℕ
count_from o = count_by (λ p. is_from o p.source)

-- a noun in the singular or the plural
abbrev pub noun : ℕ → List ℕ → List ℕ → List ℕ
noun n one more = if n == 1 then one else more

-- how many packages come from somewhere, after what leads to it; nothing for zero
abbrev pub counted_part : List ℕ → ℕ → List ℕ → List ℕ
counted_part lead n words = if n == 0 then [] else lead ++ (decimal n ++ (codes " " ++ words))

-- what leads to the next number: the same, unless this one is shown
abbrev pub lead_after : List ℕ → ℕ → List ℕ
lead_after lead n = if n == 0 then lead else codes ", "

-- where the packages come from that are not compared; nothing if there is none
abbrev pub not_compared_text : List PackageData → List ℕ
not_compared_text others =
    let git = count_from origin.Git others in
    let registry = count_from origin.Registry others in
    let folder = count_from origin.Folder others in
    let unsaid = count_from origin.Unsaid others in
    let lead_1 = codes "; not compared: " in
    let lead_2 = lead_after lead_1 git in
    let lead_3 = lead_after lead_2 registry in
    let lead_4 = lead_after lead_3 folder in
    counted_part lead_1 git (codes "from git")
    ++ (counted_part lead_2 registry (codes "from other registries")
    ++ (counted_part lead_3 folder (codes "from folders")
    ++ counted_part lead_4 unsaid (codes "without a source")))

-- how many packages are compared with how many advisories, and where the others come from
abbrev pub coverage_line : CoverageData → List ℕ
coverage_line c = decimal (length c.compared)
    ++ (codes " " ++ (noun (length c.compared) (codes "package") (codes "packages")
    ++ (codes " of crates.io compared with " ++ (decimal c.advisories
    ++ (codes " " ++ (noun c.advisories (codes "advisory") (codes "advisories")
    ++ not_compared_text c.not_compared))))))

-- ---- law

-- the packages that are compared and those that are not are together the packages, each once, and
-- exactly those that count as those of crates.io are compared
pub record IsExactCoverage (registries : List Source) (packages : List PackageData)
    (coverage : CoverageData) : Type 0 where
  pub together : IsPermutation packages (coverage.compared ++ coverage.not_compared)
  pub compared : (p : PackageData) → Contains coverage.compared p
      ↔ (Contains packages p × (counts_as_crates_io registries p.source ≡ true))
  pub not_compared : (p : PackageData) → Contains coverage.not_compared p
      ↔ (Contains packages p × (counts_as_crates_io registries p.source ≡ false))

-- that holds of each coverage
abbrev pub CoverageIsExact : Type 0
CoverageIsExact = (registries : List Source) (packages : List PackageData) (advisories : ℕ)
    → IsExactCoverage registries packages (coverage_of registries packages advisories)
