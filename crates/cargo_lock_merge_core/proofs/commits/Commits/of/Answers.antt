use Rattle.std.proofs.Common.{◌≡◌, List, subst, sym}
use Rattle.cargo_lock_parts.specs.Identity.{PackageData}
use Rattle.cargo_lock_merge_core.specs.Commits.{HasOneCommitEach}
use Rattle.cargo_lock_merge_core.proofs.commits.Commits.of.Goals as goal

pub invariant_of-result : goal.invariant_of-result
invariant_of-result c =
    let to = λ (xs : List PackageData) (ys : List PackageData) (e : xs ≡ ys) (h : HasOneCommitEach ys). subst HasOneCommitEach (sym e) h in
    (to _ _ c.in_ok-of.ensures.ok c.requires.base, to _ _ c.in_ok-of-2.ensures.ok c.requires.ours, to _ _ c.in_ok-of-3.ensures.ok c.requires.theirs)
