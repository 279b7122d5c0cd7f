-- Packages of git sources.
use Rattle.std.proofs.Common.{◌≡◌, Bool, true, false, Option, Some, refl, sym, subst, true≢false}
use Rattle.std.specs.Bool.{Decides}
use Rattle.cargo_lock_parts.specs.Source.{Source, is_git}
use Rattle.cargo_lock_parts.specs.SourceKey.{Key}
use Rattle.cargo_lock_edges.specs.Nearest.{key_without_commit}
use Rattle.cargo_lock_merge_core.specs.Commits.{git_in}

no-git : (s : Source) (g : Key) → is_git s.kind ≡ false → ¬ (git_in (Some s) ≡ Some g)
no-git s g e h = absurd (let n = rw e at h in cc)

git-some : (s : Source) (b : Bool) → b ≡ is_git s.kind → Decides b ((g : Key) × (git_in (Some s) ≡ Some g))
git-some s true e = (λ h. (key_without_commit s, rw (← e) refl), λ h. refl)
git-some s false e = (λ h. absurd (true≢false (sym h)), λ h. absurd (no-git s h.0 (sym e) h.1))

-- a package is of a git source where its source is one
pub of-git : (o : Option Source) (s : Source) (b : Bool) → o ≡ Some s → b ≡ is_git s.kind → Decides b ((g : Key) × (git_in o ≡ Some g))
of-git o s b e h = subst (λ (z : Option Source). Decides b ((g : Key) × (git_in z ≡ Some g))) (sym e) (git-some s b h)
