use Rattle.std.proofs.Common.{ap, inl, sym}
use Rattle.cargo_lock_encoding.specs.Lockfiles.{LockfileData}
use Rattle.cli_input.proofs.load.named_graph.Goals as goal

pub returns-in-Ok-clause-ok : goal.returns-in-Ok-clause-ok
returns-in-Ok-clause-ok g c = (
  c.in_ok-lockfile.lockfile,
  c.in_ok-lockfile.ensures.meant,
  ap (λ (l : LockfileData). l.version) (sym c.lockfile.view_is),
  rw (sym c.lockfile.view_is, sym c.deref.ensures.value) c.in-Ok.ensures.ok,
)

pub returns-clause-err : goal.returns-clause-err
returns-clause-err g c = inl (
  c.in_ok-lockfile.lockfile,
  c.in_ok-lockfile.ensures.meant,
  c.in_ok-lockfile.ensures.allowed,
  rw (sym c.lockfile.view_is, sym c.deref.ensures.value) c.in-Err.ensures.err,
)
