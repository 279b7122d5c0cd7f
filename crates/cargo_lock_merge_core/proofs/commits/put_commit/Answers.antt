use Rattle.std.proofs.Common.{◌∙◌, ap, sym, refl}
use Rattle.std.specs.BTreeMap.{get}
use Rattle.cargo_lock_parts.specs.Identity.{PackageData}
use Rattle.cargo_lock_parts.specs.SourceKey.{key_of, source_cmp}
use Rattle.cargo_lock_merge_core.proofs.Putting.{put-git, put-none, put-not-git}
use Rattle.cargo_lock_merge_core.proofs.commits.put_commit.Goals as goal
use Rattle.cargo_lock_merge_core.proofs.commits.put_commit.Goals.{in-Some+then-is_git+in_ok-with_precise+in_ok-insert, in-Some+else-is_git, in_default}

pub returns-clause-ok : goal.returns-clause-ok
returns-clause-ok c = λ s bare.
    let p = c.args.«package».now in
    let source = ap (λ (q : PackageData). q.source) (sym c.«package».view_is) in
    let old = get source_cmp c.args.commits.now s in
    let new = get source_cmp c.match-package.commits s in
    elim c.match-package.branch [
      | in-Some+then-is_git+in_ok-with_precise+in_ok-insert w ↦
          put-git p w.in-Some.source w.in_ok-with_precise.field-0 s old new _ (source ∙ w.in-Some.is) refl (sym w.is_git.ensures ∙ w.if-is_git.true)
          w.in_ok-with_precise.ensures.ok (ap (λ m. get source_cmp m s) w.commits-is ∙ w.in_ok-insert.ensures.updates.0 s)
      | in-Some+else-is_git w ↦
          put-not-git p w.in-Some.source (key_of s) old new (source ∙ w.in-Some.is) (sym w.is_git.ensures ∙ w.if-is_git.false) (ap (λ m. get source_cmp m s) w.commits-is)
      | in_default w ↦
          put-none p (key_of s) old new (source ∙ w.in_default.is) (ap (λ m. get source_cmp m s) w.commits-is)
    ]
