-- The tokens and the depth of a log.
use Rattle.std.proofs.Common.{◌≡◌, ◌≤◌, ◌∙◌, ◌++◌, [], ◌∷◌, ℕ, Bool, true, false, List, Option, None, Some, ap, append_assoc, arith, codes, decimal, map, refl, sym}
use Rattle.std.specs.Prelude.{if◌then◌else◌}
use Rattle.json.specs.Json.{Members, array, member, no_members, object, string}
use Rattle.json.specs.Token as token
use Rattle.json.specs.Token.{Token, key}
use Rattle.json.specs.Tree.{depth, json_tokens, members_depth, members_tokens}
use Rattle.printing.specs.Json.{items_of}
use Rattle.printing.proofs.Depth.{array-depth}
use Rattle.cargo_lock_report.specs.Log.{fingerprints_json, line_tokens, link_member, link_tokens, location_json, log_json, message_json, region_member, region_tokens, result_json, rule_json, run_json, title_before, title_tokens, tokens_if_link, tool_json}
use Rattle.cargo_lock_report.specs.Reported.{ReportedData, RuleData}
use Rattle.cargo_lock_report.specs.Uris.{is_link, uri_of_path}

-- ---- tokens

title-tokens : (title : Option (List ℕ)) (further : Members) → title_tokens title ++ members_tokens further ≡ members_tokens (title_before title further)
title-tokens None further = refl
title-tokens (Some title) further = refl

link-tokens : (url : Option (List ℕ)) → link_tokens url ++ (token.end_object ∷ []) ≡ members_tokens (link_member url)
link-tokens None = refl
link-tokens (Some url) = by (is_link url)
  where
    by : (b : Bool) → (if b then key (codes "helpUri") ∷ token.string url ∷ [] else []) ++ (token.end_object ∷ [])
        ≡ members_tokens (if b then member (codes "helpUri") (string url) no_members else no_members)
    by true = refl
    by false = refl

region-tokens : (line : Option ℕ) → region_tokens line ++ (token.end_object ∷ []) ≡ members_tokens (region_member line)
region-tokens None = refl
region-tokens (Some n) = refl

-- the tokens of a rule, one after another
pub rule-tokens : (r : RuleData) → (token.begin_object ∷ []) ++ ((key (codes "id") ∷ token.string r.id ∷ [])
    ++ (title_tokens r.title ++ (link_tokens r.url ++ (token.end_object ∷ []))))
    ≡ token.begin_object ∷ key (codes "id") ∷ token.string r.id ∷ members_tokens (title_before r.title (link_member r.url))
rule-tokens r = ap (λ (ts : List Token). token.begin_object ∷ key (codes "id") ∷ token.string r.id ∷ ts)
    (ap (λ ts. title_tokens r.title ++ ts) (link-tokens r.url) ∙ title-tokens r.title (link_member r.url))

-- those of a result with this id of a rule, this word for its level and this message
abbrev pub result_pieces : List ℕ → List ℕ → List ℕ → ReportedData → List Token
result_pieces id word message f = token.begin_object ∷ key (codes "ruleId") ∷ token.string id ∷ key (codes "level") ∷ token.string word
    ∷ key (codes "message") ∷ (json_tokens (message_json message)
    ++ ((key (codes "locations") ∷ json_tokens (array (items_of (location_json f.spot ∷ []))))
    ++ ((key (codes "partialFingerprints") ∷ json_tokens (fingerprints_json f)) ++ (token.end_object ∷ []))))

-- those of a tool, of which these are the rules
pub tool-tokens : (rules : List Token) → (token.begin_object ∷ []) ++ ((key (codes "driver") ∷ []) ++ ((token.begin_object ∷ [])
    ++ ((key (codes "name") ∷ token.string (codes "cargo-lock") ∷ []) ++ ((key (codes "rules") ∷ [])
    ++ (rules ++ ((token.end_object ∷ []) ++ (token.end_object ∷ [])))))))
    ≡ token.begin_object ∷ key (codes "driver") ∷ token.begin_object ∷ key (codes "name") ∷ token.string (codes "cargo-lock")
    ∷ key (codes "rules") ∷ ((rules ++ (token.end_object ∷ [])) ++ (token.end_object ∷ []))
tool-tokens rules =
    ap (λ (ts : List Token). token.begin_object ∷ key (codes "driver") ∷ token.begin_object ∷ key (codes "name") ∷ token.string (codes "cargo-lock")
    ∷ key (codes "rules") ∷ ts)
    (sym (append_assoc rules (token.end_object ∷ []) (token.end_object ∷ [])))

-- those of a log, of which these are the run
pub log-tokens : (begin run : List Token) → begin ++ ((token.begin_array ∷ []) ++ (run ++ ((token.end_array ∷ []) ++ (token.end_object ∷ []))))
    ≡ begin ++ (token.begin_array ∷ ((run ++ (token.end_array ∷ [])) ++ (token.end_object ∷ [])))
log-tokens begin run =
    ap (λ (ts : List Token). begin ++ (token.begin_array ∷ ts)) (sym (append_assoc run (token.end_array ∷ []) (token.end_object ∷ [])))

-- the tokens of a location, one after another
pub location-tokens : (path : List ℕ) (line : Option ℕ)
    → (token.begin_object ∷ []) ++ ((key (codes "physicalLocation") ∷ []) ++ ((token.begin_object ∷ [])
    ++ ((key (codes "artifactLocation") ∷ []) ++ ((token.begin_object ∷ [])
    ++ ((key (codes "uri") ∷ token.string (uri_of_path path) ∷ []) ++ ((token.end_object ∷ [])
    ++ (region_tokens line ++ ((token.end_object ∷ []) ++ (token.end_object ∷ [])))))))))
    ≡ json_tokens (object (member (codes "physicalLocation") (object
    (member (codes "artifactLocation") (object (member (codes "uri") (string (uri_of_path path)) no_members))
    (region_member line))) no_members))
location-tokens path line =
    ap (λ (ts : List Token). token.begin_object ∷ key (codes "physicalLocation") ∷ token.begin_object ∷ key (codes "artifactLocation") ∷ token.begin_object
    ∷ key (codes "uri") ∷ token.string (uri_of_path path) ∷ token.end_object ∷ ts)
    (sym (append_assoc (region_tokens line) (token.end_object ∷ []) (token.end_object ∷ []))
    ∙ ap (λ ts. ts ++ (token.end_object ∷ [])) (region-tokens line))

-- ---- depth

message-depth : (text : List ℕ) → depth (message_json text) ≤ 1
unfolding message_json
message-depth text = omega arith

link-depth : (url : Option (List ℕ)) → members_depth (link_member url) ≤ 1
link-depth None = omega arith
link-depth (Some url) = by (is_link url)
  where
    by : (b : Bool) → members_depth (if b then member (codes "helpUri") (string url) no_members else no_members) ≤ 1
    by true = omega arith
    by false = omega arith

title-depth : (title : Option (List ℕ)) (further : Members) → members_depth further ≤ 1 → members_depth (title_before title further) ≤ 1
title-depth None further low = low
title-depth (Some title) further low = omega (arith, low, message-depth title)

rule-depth : (r : RuleData) → depth (rule_json r) ≤ 2
unfolding rule_json
rule-depth r = omega (arith, title-depth r.title (link_member r.url) (link-depth r.url))

region-depth : (line : Option ℕ) → members_depth (region_member line) ≤ 1
region-depth None = omega arith
region-depth (Some n) = omega arith

result-depth : (f : ReportedData) → depth (result_json f) ≤ 6
unfolding result_json location_json fingerprints_json
result-depth f = omega (arith, message-depth f.message, region-depth f.spot.line)

pub log-depth : (rules : List RuleData) (findings : List ReportedData) → depth (log_json rules findings) ≤ 11
unfolding log_json run_json tool_json
log-depth rules findings = omega (arith, array-depth 2 rule_json rule-depth rules, array-depth 6 result_json result-depth findings)
