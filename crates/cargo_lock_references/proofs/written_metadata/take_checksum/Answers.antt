use Rattle.std.proofs.Common.{rules, refl, ◌∙◌, sym}
use Rattle.cargo_lock_references.proofs.ChecksumKeys.{without-one}
use Rattle.cargo_lock_references.proofs.Texts.{remove-none}
use Rattle.cargo_lock_references.proofs.written_metadata.take_checksum.Goals as goal

pub returns-then-is_empty-clause-ok : goal.returns-then-is_empty-clause-ok
returns-then-is_empty-clause-ok c = remove-none c.args.metadata.now.entries _ (c.if-is_empty.ensures.0 refl) ∙ sym (without-one _ _)

pub returns-clause-ok : goal.returns-clause-ok
returns-clause-ok c = rw without-one (search rules)
