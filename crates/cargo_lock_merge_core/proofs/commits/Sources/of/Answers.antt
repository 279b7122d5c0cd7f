use Rattle.std.proofs.Common.{List, arith, subst, sym, take}
use Rattle.std.proofs.lemmas.List.{take_all}
use Rattle.cargo_lock_parts.specs.Identity.{PackageData}
use Rattle.cargo_lock_parts.specs.SourceKey.{key_of, source_cmp}
use Rattle.cargo_lock_merge_core.specs.declared.placed.Placed.{Placed}
use Rattle.cargo_lock_merge_core.specs.CommitMaps.{AreCommitsOf, commit_if}
use Rattle.cargo_lock_merge_core.specs.Commits.{IsCommitIn}
use Rattle.cargo_lock_merge_core.specs.Numbered.{all_data}
use Rattle.cargo_lock_merge_core.specs.Placed.{contents_of}
use Rattle.std.specs.BTreeMap.{get}
use Rattle.cargo_lock_merge_core.proofs.Merging.{commit-put}
use Rattle.cargo_lock_merge_core.proofs.Putting.{contents-more}
use Rattle.cargo_lock_merge_core.proofs.commits.Sources.of.Goals as goal

pub loop-package-preserved : goal.loop-package-preserved
loop-package-preserved c = λ s bare.
    let xs : List Placed = c.args.packages.now in
    let i = c.loop-package.package-index in
    let x : Placed = c.package-item.result in
    let new = commit_if (get source_cmp c.put_commit.new.commits s) in
    subst (λ (zs : List PackageData). IsCommitIn zs (key_of s) new) (sym (contents-more xs i x c.loop-package-test.true (sym c.package-item.is)))
    (commit-put (contents_of (all_data (take i xs))) x.«package».now (key_of s) (commit_if (get source_cmp c.loop-package.commits s)) new
    (c.loop-package.invariant s bare) (c.in_ok-put_commit.ensures.ok s bare))

pub invariant_of-result : goal.invariant_of-result
invariant_of-result c =
    let xs : List Placed = c.args.packages.now in
    let i = c.loop-package.package-index in
    subst (λ (zs : List Placed). AreCommitsOf (contents_of (all_data zs)) c.loop-package.commits) (take_all i xs (let e = c.loop-package-test.false in omega (arith, e)))
    c.loop-package.invariant
