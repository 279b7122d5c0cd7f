-- The format of a merge.
use Rattle.std.specs.Prelude.{◌≡◌, ◌⊎◌, ◌≤◌}
use Rattle.cargo_lock_references.specs.declared.version.ResolveVersion.{ResolveVersion}
use Rattle.cargo_lock_references.specs.Format.{number_of}

-- f is the later one of the formats o and t
pub record IsLaterFormat (o t f : ResolveVersion) : Type 0 where
  pub of_side : (f ≡ o) ⊎ (f ≡ t)
  pub ours : number_of o ≤ number_of f
  pub theirs : number_of t ≤ number_of f
