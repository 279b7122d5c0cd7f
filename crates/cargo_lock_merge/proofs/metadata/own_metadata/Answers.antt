use Rattle.std.proofs.Common.{◌≡◌, ap, subst, sym}
use Rattle.cargo_lock_encoding.specs.Lockfiles.{LockfileData}
use Rattle.cargo_lock_merge.proofs.MetadataMerging.{later, own-copy}
use Rattle.cargo_lock_references.specs.declared.version.ResolveVersion.{ResolveVersion}
use Rattle.cargo_lock_references.specs.declared.version.ResolveVersion.TheVariants.{V1}
use Rattle.cargo_lock_merge.proofs.metadata.own_metadata.Goals as goal

pub returns-in_ok-copy_of-in-V2 : goal.returns-in_ok-copy_of-in-V2
returns-in_ok-copy_of-in-V2 c = record {
  ok = λ key.
      let is = c.lockfile.view_is in
      let n = subst (λ (v : ResolveVersion). v ≡ V1 → ⊥) (ap (λ (l : LockfileData). l.version) is) (later c.lockfile.inside.version c.in-V2.is) in
      own-copy c.args.lockfile.now c.lockfile.inside.metadata c.in_ok-copy_of-in-V2.field-0 key n (ap (λ (l : LockfileData). l.metadata) (sym is)) c.in_ok-copy_of-in-V2.ensures;
  err = tt;
}
