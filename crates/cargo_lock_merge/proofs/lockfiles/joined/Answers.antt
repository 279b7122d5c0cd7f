use Rattle.std.proofs.Common.{inl, subst}
use Rattle.cargo_lock_merge.specs.MergedLockfiles.{packages_of}
use Rattle.cargo_lock_merge.specs.Outcome.{FindsMerge}
use Rattle.cargo_lock_merge.specs.declared.outcome.Outcome.{Outcome}
use Rattle.cargo_lock_merge.proofs.LockfileMerging.{conflicting, metadata-conflicts}
use Rattle.cargo_lock_merge.proofs.lockfiles.joined.Goals as goal

pub returns-in-Conflicts-clause-ok : goal.returns-in-Conflicts-clause-ok
returns-in-Conflicts-clause-ok c = λ s roots found rest.
    let h = subst (λ (o : Outcome). FindsMerge (packages_of s) o) c.in-Conflicts.is found in
    record {
      roots = roots;
      packages = conflicting (packages_of s) c.in-Conflicts.packages.items h;
      metadata = metadata-conflicts s c.args.rest.metadata rest.metadata;
      format = tt;
      some = inl h.some;
    }
