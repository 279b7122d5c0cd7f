-- From V2 on the checksums that Cargo reads are those of the packages.
use Rattle.std.proofs.Common.{◌≡◌, true, List, [], ◌∷◌, map, refl, sym, ap}
use Rattle.std.proofs.lemmas.Bool.{false≢true}
use Rattle.cargo_lock_parts.specs.Identity.{PackageData}
use Rattle.cargo_lock_references.specs.declared.version.ResolveVersion.{ResolveVersion}
use Rattle.cargo_lock_references.specs.declared.version.ResolveVersion.TheVariants.{V1, V2, V3, V4}
use Rattle.cargo_lock_references.specs.Records.{Texts}
use Rattle.cargo_lock_encoding.specs.Lockfiles.{LockfileData}
use Rattle.cargo_lock.specs.CargoChecksums.{with_cargo_checksums, with_cargo_checksums_in, with_checksum}
use Rattle.cargo_lock_check.specs.Findings.{has_own_checksums}

each-own : (packages : List PackageData) → map (λ p. with_checksum p.checksum p) packages ≡ packages
each-own [] = refl
each-own (p ∷ packages) = ap (λ (ps : List PackageData). p ∷ ps) (each-own packages)

unchanged : (version : ResolveVersion) (m : Texts) (packages : List PackageData)
    → has_own_checksums version ≡ true → with_cargo_checksums version m packages ≡ packages
unchanged V1 m packages own = absurd (false≢true own)
unchanged V2 m packages own = each-own packages
unchanged V3 m packages own = each-own packages
unchanged V4 m packages own = each-own packages

pub as-read : (l : LockfileData) → has_own_checksums l.version ≡ true
    → l ≡ with_cargo_checksums_in l
as-read l own = sym (ap (λ (ps : List PackageData). record l { packages = ps })
    (unchanged l.version l.metadata l.packages own))
