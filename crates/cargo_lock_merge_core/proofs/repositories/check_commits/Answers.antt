use Rattle.std.proofs.Common.{◌∙◌, ◌∷◌, ◌++◌, [], List, ap, arith, subst, sym, take}
use Rattle.std.proofs.lemmas.List.{take_all, take_more}
use Rattle.cargo_lock_parts.specs.Identity.{PackageData}
use Rattle.cargo_lock_merge_core.specs.CommitMaps.{AreCommitsOf, AreSourcesOf}
use Rattle.cargo_lock_merge_core.specs.Commits.{HasOneCommitEach}
use Rattle.cargo_lock_merge_core.specs.Refusals.{IsTwoOrMemory}
use Rattle.cargo_lock_merge_core.proofs.Faults.{passed}
use Rattle.cargo_lock_merge_core.proofs.OneCommit.{commits-more, one-more, sources-more, two-of}
use Rattle.cargo_lock_merge_core.proofs.repositories.check_commits.Goals as goal

pub returns-in_err-put_once-clause-err : goal.returns-in_err-put_once-clause-err
returns-in_err-put_once-clause-err c =
    let ps : List PackageData = c.args.packages.now in
    passed (IsTwoOrMemory ps) c.from_residual.result c.in_err-put_once.field-0.0 c.from_residual.ensures.1
    (two-of ps c.loop-package.package-index c.package-item.result c.loop-package.commits c.in_err-put_once.field-0.0 c.loop-package-test.true c.package-item.is c.loop-package.invariant.sources
    c.in_err-put_once.ensures.err)

pub loop-package-preserved : goal.loop-package-preserved
loop-package-preserved c =
    let ps : List PackageData = c.args.packages.now in
    let i = c.loop-package.package-index in
    let p : PackageData = c.package-item.result in
    let more = sym (take_more ps i p c.loop-package-test.true ∙ ap (λ (q : PackageData). take i ps ++ q ∷ []) (sym c.package-item.is)) in
    record {
      commits = subst (λ (qs : List PackageData). AreCommitsOf qs c.put_once.new.commits) more
          (commits-more (take i ps) p c.loop-package.commits c.put_once.new.commits c.loop-package.invariant.commits c.in_ok-put_once.ensures.put);
      sources = subst (λ (qs : List PackageData). AreSourcesOf qs c.put_once.new.commits) more
          (sources-more (take i ps) p c.loop-package.commits c.put_once.new.commits c.loop-package.invariant.sources c.in_ok-put_once.ensures.sources);
      once = subst (λ (qs : List PackageData). HasOneCommitEach qs) more
          (one-more (take i ps) p c.loop-package.commits c.loop-package.invariant.commits c.loop-package.invariant.once c.in_ok-put_once.ensures.once);
    }

pub returns-clause-ok : goal.returns-clause-ok
returns-clause-ok c =
    let ps : List PackageData = c.args.packages.now in
    let end = c.loop-package-test.false in
    subst (λ (qs : List PackageData). HasOneCommitEach qs) (take_all c.loop-package.package-index ps (omega (arith, end))) c.loop-package.invariant.once
