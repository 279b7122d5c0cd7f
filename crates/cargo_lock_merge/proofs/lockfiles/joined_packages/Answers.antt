use Rattle.std.proofs.Common.{◌∙◌, List, inl, inr, subst, sym, true≢false}
use Rattle.std.specs.List.{AllZip}
use Rattle.std.proofs.lemmas.Result.{IfOk-weaker}
use Rattle.cargo_lock_encoding.specs.Lockfiles.{LockfileData}
use Rattle.cargo_lock_merge.specs.MergedLockfiles.{IsMergedLockfile, packages_of}
use Rattle.cargo_lock_merge.specs.Referring.{IsReferring}
use Rattle.cargo_lock_merge.proofs.LockfileMerging.{merged-lockfile, metadata-conflicts, no-conflicting, some-key}
use Rattle.cargo_lock_parts.specs.Identity.{PackageData}
use Rattle.cargo_lock_merge.proofs.lockfiles.joined_packages.Goals as goal

pub returns-then-is_empty-clause-ok : goal.returns-then-is_empty-clause-ok
returns-then-is_empty-clause-ok c =
    IfOk-weaker c.with_text.result _ _ (λ merge h s roots found rest.
    let refers = subst (λ (ps : List PackageData). AllZip IsReferring ps c.in_ok-packages.packages.items) c.deref.ensures.value c.in_ok-packages.ensures.ok in
    h s (subst (λ (l : LockfileData). IsMergedLockfile s l c.args.remarks) (sym c.lockfile_of.ensures)
    (merged-lockfile s c.args.rest c.args.packages.items c.in_ok-packages.packages.items c.args.remarks roots found refers (c.is_empty.ensures.0 c.if-is_empty.true) rest)))
    c.with_text.ensures.ok

pub returns-clause-ok : goal.returns-clause-ok
returns-clause-ok c = λ s roots found rest. record {
  roots = roots;
  packages = no-conflicting (packages_of s) c.new.result.items c.args.packages.items c.args.remarks c.new.ensures.items found;
  metadata = metadata-conflicts s c.args.rest.metadata rest.metadata;
  format = tt;
  some = inr (inl (some-key c.args.rest.metadata.conflicts (λ z. true≢false (sym (c.is_empty.ensures.1 z) ∙ c.if-is_empty.false))));
}
