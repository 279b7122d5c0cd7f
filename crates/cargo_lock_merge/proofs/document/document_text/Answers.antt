use Rattle.std.proofs.Common.{arith}
use Rattle.cargo_lock_merge.proofs.DocumentDepth.{document-depth}
use Rattle.cargo_lock_merge.proofs.document.document_text.Goals as goal

pub json_line-requires : goal.json_line-requires
json_line-requires c = omega (arith, document-depth c.args.document.now)
