use Rattle.std.proofs.Common.{◌∙◌, ap, map, sym}
use Rattle.std.proofs.lemmas.Simd.{map-map}
use Rattle.cargo_lock_audit.specs.Document.{advisory_finding_json, advisory_finding_line_in, lined_finding_json}
use Rattle.cargo_lock_audit.specs.Findings.{advisory_finding_of}
use Rattle.cargo_lock_audit.specs.declared.finding.Finding.{Finding}
use Rattle.cargo_lock_location.proofs.Items.{items-located}
use Rattle.cargo_lock_audit.proofs.document.advisories_json.Goals as goal

pub returns : goal.returns
returns c =
    let lines = c.args.lines.now in
    let items = items-located (λ line (f : Finding). advisory_finding_json line (advisory_finding_of f))
    (λ (f : Finding). advisory_finding_line_in lines (advisory_finding_of f)) c.in_ok-findings.findings.items c.args.report.now.findings.items
    (c.in_ok-findings.ensures ∙ ap (map (λ (f : Finding). (f, advisory_finding_line_in lines (advisory_finding_of f)))) c.deref.ensures.value) in
    rw (map-map (lined_finding_json lines) advisory_finding_of c.args.report.now.findings.items, sym items, sym c.deref-2.ensures.value) c.advisories_document.ensures
