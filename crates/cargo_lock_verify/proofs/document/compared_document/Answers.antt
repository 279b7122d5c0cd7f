use Rattle.cargo_lock_verify.proofs.DocumentDepth.{compared-depth}
use Rattle.std.proofs.Common.{arith}
use Rattle.cargo_lock_verify.proofs.document.compared_document.Goals as goal

pub json_line-requires : goal.json_line-requires
json_line-requires g c =
    omega (
      arith,
      compared-depth g.T.ToJson.json 125 c.requires c.args.compared c.args.file.now
          c.args.counts c.args.findings.now,
    )
