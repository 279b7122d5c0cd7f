-- How many bytes the versions have of what the packages of a lockfile depend on.
use Rattle.std.specs.Prelude.{ℕ, ◌+◌, ◌-◌, ◌^◌, ◌<◌, List, length, min}
use Rattle.std.specs.List.{sum_by}
use Rattle.semver.specs.Parse.{Parts}
use Rattle.cargo_lock_parts.specs.Identity.{Identity, PackageData}

-- the bytes of a version: those of its pre-release and of its build metadata. Its three numbers
-- take the same room in each version
abbrev pub version_length : Parts → ℕ
version_length v = length v.3 + length v.4

-- those of the versions of dependencies together
abbrev pub dependencies_length : List Identity → ℕ
dependencies_length = sum_by (λ d. version_length d.version)

-- those of the versions of what packages depend on
abbrev pub packages_length : List PackageData → ℕ
packages_length = sum_by (λ p. dependencies_length p.dependencies)

-- the versions of what the packages depend on have more bytes together than a limit
abbrev pub IsBeyond : ℕ → List PackageData → Type 0
IsBeyond limit packages = limit < packages_length packages

-- a number as the code counts it, which has no greater one than this
abbrev pub capped : ℕ → ℕ
capped n = min n (2 ^ 64 - 1)
