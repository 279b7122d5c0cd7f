use Rattle.std.proofs.Common.{arith}
use Rattle.cargo_lock_audit.specs.Report.{report_data_of}
use Rattle.cargo_lock_audit.proofs.DocumentDepth.{document-depth}
use Rattle.cargo_lock_audit.proofs.document.advisories_document.Goals as goal

pub json_line-requires : goal.json_line-requires
json_line-requires c =
    omega (arith, document-depth c.args.file.now c.args.findings.now (report_data_of c.args.report.now))
