-- The depth of the document of advisories.
use Rattle.std.proofs.Common.{◌≤◌, ℕ, List, [], ◌∷◌, Bool, Option, None, Some, arith, codes, map}
use Rattle.json.specs.Json.{Members, member, no_members, string}
use Rattle.json.specs.Tree.{depth, members_depth}
use Rattle.cargo_lock_audit.specs.Details.{AffectedData, DetailsData, FunctionData}
use Rattle.cargo_lock_audit.specs.Findings.{AdvisoryFindingData, advisory_finding_of}
use Rattle.cargo_lock_audit.specs.declared.finding.Finding.{Finding}
use Rattle.cargo_lock_audit.specs.Requirement.{RequirementData}
use Rattle.cargo_lock_audit.specs.Report.{ReportData}
use Rattle.cargo_lock_display.specs.PackageJson.{package_json}
use Rattle.cargo_lock_parts.specs.Identity.{PackageData, identity_of}
use Rattle.cargo_lock_audit.specs.Document.{advisory_finding_json, affected_json, affected_or_null, details_members, advisories_document, functions_members, located_finding_json, texts_json, truth_or_null}
use Rattle.cargo_lock_display.specs.File.{FileData, document_json}
use Rattle.cargo_lock_display.proofs.Depth.{identity-depth}
use Rattle.cargo_lock_location.proofs.LineDepth.{line-depth}
use Rattle.cargo_lock_location.specs.declared.located.Located.{Located}
use Rattle.printing.proofs.Depth.{array-depth, text-depth}

texts-depth : (texts : List (List ℕ)) → depth (texts_json texts) ≤ 1
texts-depth = array-depth 0 string (λ (text : List ℕ). omega arith)

functions-depth : (fs : List FunctionData) → members_depth (functions_members fs) ≤ 1
functions-depth [] = omega arith
functions-depth (f ∷ fs) = omega (arith, texts-depth f.versions, functions-depth fs)

affected-depth : (a : Option AffectedData) → depth (affected_or_null a) ≤ 3
unfolding affected_json
affected-depth None = omega arith
affected-depth (Some a) = omega (arith, functions-depth a.functions, texts-depth a.os, texts-depth a.arch)

brought-depth : (truth : Option Bool) → members_depth (member (codes "brought") (truth_or_null truth) no_members) ≤ 3
brought-depth None = omega arith
brought-depth (Some b) = omega arith

-- what an advisory says besides, before further members
details-depth : (d : DetailsData) (further : Members) → members_depth further ≤ 3 → members_depth (details_members d further) ≤ 3
unfolding details_members
details-depth d further low = omega (
  arith,
  low,
  text-depth d.url,
  text-depth d.cvss,
  texts-depth d.references,
  texts-depth d.categories,
  texts-depth d.keywords,
  affected-depth d.affected,
)

finding-depth : (line : Option ℕ) (f : AdvisoryFindingData) → depth (advisory_finding_json line f) ≤ 4
unfolding advisory_finding_json
finding-depth line f = omega (
  arith,
  line-depth line,
  identity-depth (identity_of f.content) f.content.checksum,
  texts-depth (map (λ (r : RequirementData). r.text) f.advisory.patched),
  texts-depth f.advisory.aliases,
  texts-depth (map (λ (r : RequirementData). r.text) f.advisory.unaffected),
  details-depth f.advisory.details (member (codes "brought") (truth_or_null f.brought) no_members) (brought-depth f.brought),
)

pub document-depth : (file : FileData) (findings : List (Located Finding)) (r : ReportData)
    → depth (advisories_document file (map located_finding_json findings) r) ≤ 6
unfolding advisories_document document_json
document-depth file findings r = omega (
  arith,
  text-depth file.path,
  array-depth 4 located_finding_json (λ (l : Located Finding). finding-depth l.line (advisory_finding_of l.found.now)) findings,
  texts-depth r.unmet,
  array-depth 3 package_json (λ (p : PackageData). identity-depth (identity_of p) p.checksum) r.coverage.not_compared,
)
