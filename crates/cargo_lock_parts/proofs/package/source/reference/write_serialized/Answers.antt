use Rattle.std.proofs.Common.{◌++◌, append_assoc, rules}
use Rattle.std.proofs.Output.{has_written_append}
use Rattle.cargo_lock_parts.proofs.package.source.reference.write_serialized.Goals as goal

pub loop-piece-preserved : goal.loop-piece-preserved
loop-piece-preserved g c = λ plain.
    let so_far = c.loop-piece.invariant plain in
    (so_far.0 ++ c.in-Some.piece.now, has_written_append _ _ _ _ _ _ so_far.1 (search rules), rw (append_assoc, ← c.in-Some.ensures.steps) so_far.2)
