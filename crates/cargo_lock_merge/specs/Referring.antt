-- The references of a merge as Cargo writes them: with their commits or without.
use Rattle.std.specs.Prelude.{◌≡◌, ◌⊎◌, option_map}
use Rattle.std.specs.List.{AllZip}
use Rattle.cargo_lock.specs.CargoChecksums.{unpinned}
use Rattle.cargo_lock_parts.specs.Identity.{Identity, PackageData, identity_of}
use Rattle.cargo_lock_parts.specs.Optional.{BothOrNone}

-- the identity without the commit of its source
abbrev pub unpinned_identity : Identity → Identity
unpinned_identity d = record d { source = option_map unpinned d.source }

-- e is d, with the commit of its source or without
abbrev pub IsReferenceTo : Identity → Identity → Type 0
IsReferenceTo d e = (e ≡ d) ⊎ (e ≡ unpinned_identity d)

-- q is p, with its references with their commits or without
pub record IsReferring (p q : PackageData) : Type 0 where
  pub identity : identity_of q ≡ identity_of p
  pub checksum : q.checksum ≡ p.checksum
  pub dependencies : AllZip IsReferenceTo p.dependencies q.dependencies
  pub replace : BothOrNone IsReferenceTo p.replace q.replace
