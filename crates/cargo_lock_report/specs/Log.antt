-- Findings as a log of SARIF 2.1.0, a standard of OASIS.
use Rattle.std.specs.Prelude.{[], ◌∷◌, ℕ, List, Option, None, Some, codes, decimal, if◌then◌else◌, map}
use Rattle.json.specs.Json.{Json, Members, array, number, string, object, member, no_members}
use Rattle.json.specs.Token as token
use Rattle.json.specs.Token.{Token, key}
use Rattle.json.specs.Tree.{json_tokens}
use Rattle.printing.specs.Json.{items_of}
use Rattle.cargo_lock_parts.specs.Checksum.{digest_text}
use Rattle.cargo_lock_report.specs.declared.reported.Level.{Level}
use Rattle.cargo_lock_report.specs.declared.reported.Level.TheVariants.{Error, Warning}
use Rattle.cargo_lock_report.specs.declared.escape.Escape.TheVariants.{Braces}
use Rattle.cargo_lock_report.specs.Escapes.{text_as}
use Rattle.cargo_lock_report.specs.Reported.{ReportedData, RuleData, SpotData, fingerprint}
use Rattle.cargo_lock_report.specs.Rules.{rules_of}
use Rattle.cargo_lock_report.specs.Uris.{is_link, uri_of_path}

-- the word for whether a finding counts
abbrev pub level_word : Level → List ℕ
level_word Error = codes "error"
level_word Warning = codes "warning"

-- a message: a text in which braces are doubled
unfoldable pub message_json : List ℕ → Json
message_json text = object (member (codes "text") (string (text_as Braces text)) no_members)

-- ---- rules

-- the member with the title of a rule, if it has one, before others
abbrev pub title_before : Option (List ℕ) → Members → Members
title_before None further = further
title_before (Some title) further = member (codes "shortDescription") (message_json title) further

-- the member with the URL of a rule, if it has one that is a URI of the web
abbrev pub link_member : Option (List ℕ) → Members
link_member None = no_members
link_member (Some url) =
    if is_link url then member (codes "helpUri") (string url) no_members else no_members

-- a rule: its id, its title and its URL
unfoldable pub rule_json : RuleData → Json
rule_json r = object (member (codes "id") (string r.id) (title_before r.title (link_member r.url)))

-- ---- results

-- the member with a line, if it is known
abbrev pub region_member : Option ℕ → Members
region_member None = no_members
region_member (Some n) = member (codes "region")
    (object (member (codes "startLine") (number (decimal n)) no_members)) no_members

-- where a finding lies
unfoldable pub location_json : SpotData → Json
location_json s = object (member (codes "physicalLocation") (object
    (member (codes "artifactLocation") (object
    (member (codes "uri") (string (uri_of_path s.path)) no_members))
    (region_member s.line))) no_members)

-- by which a finding is known again
unfoldable pub fingerprints_json : ReportedData → Json
fingerprints_json f = object
    (member (codes "kindNameVersion/v1") (string (digest_text (fingerprint f))) no_members)

-- a finding as a result
unfoldable pub result_json : ReportedData → Json
result_json f = object
    (member (codes "ruleId") (string f.rule.id)
    (member (codes "level") (string (level_word f.level))
    (member (codes "message") (message_json f.message)
    (member (codes "locations") (array (items_of (location_json f.spot ∷ [])))
    (member (codes "partialFingerprints") (fingerprints_json f) no_members)))))

-- ---- the log

-- what found them: this program, which has these rules
unfoldable pub tool_json : List RuleData → Json
tool_json rules = object (member (codes "driver") (object
    (member (codes "name") (string (codes "cargo-lock"))
    (member (codes "rules") (array (items_of (map rule_json rules))) no_members))) no_members)

-- a run of it, with these results
unfoldable pub run_json : List RuleData → List ReportedData → Json
run_json rules findings = object
    (member (codes "tool") (tool_json rules)
    (member (codes "results") (array (items_of (map result_json findings))) no_members))

-- a log of one run
unfoldable pub log_json : List RuleData → List ReportedData → Json
log_json rules findings = object
    (member (codes "$schema") (string (codes "https://json.schemastore.org/sarif-2.1.0.json"))
    (member (codes "version") (string (codes "2.1.0"))
    (member (codes "runs") (array (items_of (run_json rules findings ∷ []))) no_members)))

-- the log of findings: their rules, each once, and each of them as a result, in their order
abbrev pub sarif_json : List ReportedData → Json
sarif_json findings = log_json (rules_of findings) findings

-- ---- tokens, of which no public contract speaks

-- the tokens of the member with a title, if there is one
abbrev pub title_tokens : Option (List ℕ) → List Token
title_tokens None = []
title_tokens (Some title) = key (codes "shortDescription") ∷ json_tokens (message_json title)

-- those of the member with this URL, if it is one of the web
abbrev pub tokens_if_link : List ℕ → List Token
tokens_if_link url =
    if is_link url then key (codes "helpUri") ∷ token.string url ∷ [] else []

-- the same, if there is a URL
abbrev pub link_tokens : Option (List ℕ) → List Token
link_tokens None = []
link_tokens (Some url) = tokens_if_link url

-- those of the member with this line
abbrev pub line_tokens : ℕ → List Token
line_tokens n = key (codes "region") ∷ json_tokens
    (object (member (codes "startLine") (number (decimal n)) no_members))

-- the same, if it is known
abbrev pub region_tokens : Option ℕ → List Token
region_tokens None = []
region_tokens (Some n) = line_tokens n
