-- What is found of packages by advisories, in JSON: the document that `audit --json` prints.
use Rattle.std.specs.Prelude.{ℕ, [], ◌∷◌, ◌++◌, Bool, List, Option, None, Some, codes, decimal, length}
use Rattle.std.specs.Prelude.{map, unwrap_or}
use Rattle.json.specs.Json.{Json, Members, array, boolean, null, number, string, object, member}
use Rattle.json.specs.Json.{no_members}
use Rattle.json.specs.Token as token
use Rattle.json.specs.Token.{Token, key}
use Rattle.json.specs.Tree.{json_tokens}
use Rattle.cargo_lock_audit.specs.Advisory.{AdvisoryData}
use Rattle.cargo_lock_audit.specs.Details.{AffectedData, DetailsData, FunctionData}
use Rattle.cargo_lock_audit.specs.declared.finding.Finding.{Finding}
use Rattle.cargo_lock_audit.specs.Findings.{AdvisoryFindingData, advisory_finding_of}
use Rattle.cargo_lock_audit.specs.Lines.{advisory_finding_line}
use Rattle.cargo_lock_audit.specs.Report.{ReportData}
use Rattle.cargo_lock_audit.specs.Requirement.{RequirementData}
use Rattle.cargo_lock_display.specs.File.{FileData, document_json}
use Rattle.cargo_lock_display.specs.PackageJson.{package_json, packages_json}
use Rattle.cargo_lock_location.specs.Lines.{LinesData, line_of_package}
use Rattle.cargo_lock_location.specs.Located.{line_or_null}
use Rattle.cargo_lock_location.specs.declared.located.Located.{Located}
use Rattle.printing.specs.Json.{items_of}
use Rattle.printing.specs.Value.{text_or_null}

-- the kind of an advisory: that of an informational one, or else a vulnerability
abbrev pub advisory_kind : AdvisoryData → List ℕ
advisory_kind a = unwrap_or a.informational (codes "vulnerability")

-- texts, in their order
abbrev pub texts_json : List (List ℕ) → Json
texts_json texts = array (items_of (map string texts))

-- the texts of requirements, in their order
abbrev pub requirements_json : List RequirementData → Json
requirements_json rs = texts_json (map (λ r. r.text) rs)

-- functions, each as a member with its versions
abbrev pub functions_members : List FunctionData → Members
functions_members [] = no_members
functions_members (f ∷ fs) = member f.path (texts_json f.versions) (functions_members fs)

-- what is affected
unfoldable pub affected_json : AffectedData → Json
affected_json a = object
    (member (codes "functions") (object (functions_members a.functions))
    (member (codes "os") (texts_json a.os)
    (member (codes "arch") (texts_json a.arch) no_members)))

-- what is affected, or null if that is not said
abbrev pub affected_or_null : Option AffectedData → Json
affected_or_null None = null
affected_or_null (Some a) = affected_json a

-- the members of what an advisory says besides, before further ones
unfoldable pub details_members : DetailsData → Members → Members
details_members d further =
    member (codes "date") (string d.date)
    (member (codes "url") (text_or_null d.url)
    (member (codes "cvss") (text_or_null d.cvss)
    (member (codes "references") (texts_json d.references)
    (member (codes "categories") (texts_json d.categories)
    (member (codes "keywords") (texts_json d.keywords)
    (member (codes "affected") (affected_or_null d.affected) further))))))

-- true, false, or null if it is not asked
abbrev pub truth_or_null : Option Bool → Json
truth_or_null None = null
truth_or_null (Some b) = boolean b

-- the number of the line of the package of a finding, where it is known
abbrev pub advisory_finding_line_in : LinesData → AdvisoryFindingData → Option ℕ
advisory_finding_line_in lines f = line_of_package lines f.content

-- the JSON of a finding at a line
unfoldable pub advisory_finding_json : Option ℕ → AdvisoryFindingData → Json
advisory_finding_json line f = object
    (member (codes "kind") (string (advisory_kind f.advisory))
    (member (codes "denied") (boolean f.is_denied)
    (member (codes "message") (string (advisory_finding_line f))
    (member (codes "line") (line_or_null line)
    (member (codes "package") (package_json f.content)
    (member (codes "id") (string f.advisory.id)
    (member (codes "title") (string f.advisory.title)
    (member (codes "patched") (requirements_json f.advisory.patched)
    (member (codes "aliases") (texts_json f.advisory.aliases)
    (member (codes "unaffected") (requirements_json f.advisory.unaffected)
    (details_members f.advisory.details
    (member (codes "brought") (truth_or_null f.brought) no_members))))))))))))

-- the JSON of a finding of the program at its line
abbrev pub located_finding_json : Located Finding → Json
located_finding_json l = advisory_finding_json l.line (advisory_finding_of l.found.now)

-- the JSON of a finding, by the lines of the packages
abbrev pub lined_finding_json : LinesData → AdvisoryFindingData → Json
lined_finding_json lines f = advisory_finding_json (advisory_finding_line_in lines f) f

-- the findings as they are in JSON, the texts that are ignored and of which no package has the
-- advisory, how many packages were compared with how many advisories, and the packages that were not
unfoldable pub advisories_document : FileData → List Json → ReportData → Json
advisories_document file findings r = document_json (codes "cargo-lock-audit/1") file
    (member (codes "findings") (array (items_of findings))
    (member (codes "unmet") (texts_json r.unmet)
    (member (codes "compared") (number (decimal (length r.coverage.compared)))
    (member (codes "advisories") (number (decimal r.coverage.advisories))
    (member (codes "not_compared") (packages_json r.coverage.not_compared) no_members)))))

-- the same of a report, whose findings are in it each once and in order, by the lines of the packages
abbrev pub advisories_json : FileData → LinesData → ReportData → Json
advisories_json file lines r = advisories_document file (map (lined_finding_json lines) r.findings) r

-- ---- tokens, of which no public contract speaks

-- the tokens of what an advisory says besides, as members of an object
abbrev pub details_tokens : DetailsData → List Token
details_tokens d =
    key (codes "date") ∷ token.string d.date
    ∷ key (codes "url") ∷ (json_tokens (text_or_null d.url)
    ++ (key (codes "cvss") ∷ (json_tokens (text_or_null d.cvss)
    ++ (key (codes "references") ∷ (json_tokens (texts_json d.references)
    ++ (key (codes "categories") ∷ (json_tokens (texts_json d.categories)
    ++ (key (codes "keywords") ∷ (json_tokens (texts_json d.keywords)
    ++ (key (codes "affected") ∷ json_tokens (affected_or_null d.affected)))))))))))
