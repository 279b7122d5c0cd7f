use Rattle.std.proofs.Common.{arith, map}
use Rattle.cargo_lock_licenses.specs.Report.{unmet_of}
use Rattle.cargo_lock_licenses.proofs.DocumentDepth.{licenses-depth}
use Rattle.cargo_lock_licenses.proofs.document.licenses_document.Goals as goal

pub json_line-requires : goal.json_line-requires
json_line-requires c =
    omega (arith, licenses-depth c.args.file.now c.args.judged.now (map unmet_of c.args.unmet.now))
