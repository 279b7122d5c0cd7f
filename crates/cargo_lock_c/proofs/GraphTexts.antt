-- Why a lockfile of a text has no graph.
use Rattle.std.proofs.Common.{◌≡◌, ◌⊎◌, ℕ, List, arith, inl, inr}
use Rattle.cargo_lock_parts.specs.Identity.{Identity, PackageData}
use Rattle.cargo_lock_parts.specs.declared.error.Error.{Error}
use Rattle.cargo_lock_parts.specs.declared.error.Error.TheVariants.{Io, Memory, Parse, Resolution, Version}
use Rattle.cargo_lock_graph.specs.Targets.{IsFirstLost, IsUnresolved, links}
use Rattle.cargo_lock_encoding.specs.Lockfiles.{LockfileData}
use Rattle.cargo_lock_encoding.specs.Means.{TextMeans}
use Rattle.cargo_lock_c.specs.declared.refusal.Refusal.{Refusal}
use Rattle.cargo_lock_c.specs.declared.refusal.Refusal.TheVariants.{NoMemory, Unresolved}
use Rattle.cargo_lock_c.specs.Graph.{IsUnresolvedText}
use Rattle.cargo_lock_c.specs.Statuses.{refusal_of, status_of}
use Rattle.cargo_lock_c.proofs.Refusals.{memory-is-three}

-- the status of why there is no graph says that a dependency has no package
pub unresolved-text : (text : List ℕ) (l : LockfileData) (refusal : Refusal) → TextMeans text l
    → (refusal ≡ NoMemory) ⊎ ((refusal ≡ Unresolved) × (d : Identity) × IsFirstLost l.packages (links l.packages) d)
    → status_of refusal ≡ 7 → IsUnresolvedText text
unresolved-text text l refusal means (inl memory) seven = let bad : 7 ≡ 3 = memory-is-three refusal 7 memory seven in absurd (omega (arith, bad))
unresolved-text text l refusal means (inr lost) seven = (l, lost.1, means, lost.2)

-- the refusal for the fault of a graph
pub unresolved-refusal : (packages : List PackageData) (fault : Error) (refusal : Refusal) → refusal ≡ refusal_of fault → IsUnresolved packages (links packages) fault
    → (refusal ≡ NoMemory) ⊎ ((refusal ≡ Unresolved) × (d : Identity) × IsFirstLost packages (links packages) d)
unresolved-refusal packages Memory refusal is h = inl is
unresolved-refusal packages (Resolution message) refusal is h = inr (is, h.0, h.1)
unresolved-refusal packages (Io kind) refusal is h = absurd h
unresolved-refusal packages (Parse said) refusal is h = absurd h
unresolved-refusal packages (Version fault) refusal is h = absurd h
