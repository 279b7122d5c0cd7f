use Rattle.std.proofs.Common.{◌∙◌, arith, map, sym}
use Rattle.std.proofs.lemmas.Simd.{map-map}
use Rattle.cargo_lock_check.specs.Document.{findings_json, line_of_finding, lockfile_finding_json, placed_finding_json}
use Rattle.cargo_lock_check.specs.Finding.{lockfile_finding_of}
use Rattle.cargo_lock_check.specs.Findings.{placed_finding_of}
use Rattle.cargo_lock_check.specs.declared.placed.PlacedFinding.{PlacedFinding}
use Rattle.cargo_lock_location.proofs.Items.{items-located}
use Rattle.cargo_lock_check.proofs.DocumentDepth.{finding-depth}
use Rattle.cargo_lock_check.proofs.document.findings_json.Goals as goal

pub list_document-requires : goal.list_document-requires
list_document-requires c = λ located. omega (arith, finding-depth located.line (lockfile_finding_of located.found.now.finding))

pub returns : goal.returns
unfolding findings_json
returns c =
    let lines = c.args.lines.now in
    let items = items-located (λ line (x : PlacedFinding). lockfile_finding_json line (lockfile_finding_of x.finding))
    (λ (x : PlacedFinding). line_of_finding lines (placed_finding_of x)) c.in_ok-located.located.items c.args.findings.now c.in_ok-located.ensures in
    rw (map-map (placed_finding_json lines) placed_finding_of c.args.findings.now, sym items, sym c.deref.ensures.value) c.list_document.ensures
