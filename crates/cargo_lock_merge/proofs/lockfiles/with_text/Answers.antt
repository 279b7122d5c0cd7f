use Rattle.std.proofs.Common.{◌∙◌, ℕ, List, inr, refl, ap, subst, sym, true≢false}
use Rattle.cargo_lock_encoding.specs.Lockfiles.{LockfileData}
use Rattle.cargo_lock_merge.specs.MergedLockfiles.{TextIsOf, packages_of}
use Rattle.cargo_lock_merge.proofs.LockfileMerging.{agreed-conflicts, no-conflicting}
use Rattle.cargo_lock_merge.proofs.lockfiles.with_text.Goals as goal

pub returns-then-branch-clause-ok : goal.returns-then-branch-clause-ok
returns-then-branch-clause-ok c = λ s m. (
  m,
  c.in_ok-text.ensures.ok,
  subst (λ (text : List ℕ). TextIsOf c.args.lockfile text) c.as_str.ensures.value (c.in_ok-reads_back.ensures.ok.0 c.if-branch.true),
)

pub returns-clause-ok : goal.returns-clause-ok
returns-clause-ok c = λ s m. record {
  roots = m.roots;
  packages = no-conflicting (packages_of s) c.new.result.items m.packages.0 c.args.remarks c.new.ensures.items m.packages.1;
  metadata = agreed-conflicts s c.args.lockfile c.new-else-branch.result c.new-else-branch.ensures.empty m.metadata;
  format = (c.args.lockfile, c.args.remarks, m, ap (λ (l : LockfileData). l.version) (sym c.lockfile.view_is), λ t. true≢false (sym (c.in_ok-reads_back.ensures.ok.1 (subst (TextIsOf c.args.lockfile) (sym (c.as_str.ensures.value ∙ c.in_ok-text.ensures.ok)) t)) ∙ c.if-branch.false));
  some = inr (inr refl);
}
