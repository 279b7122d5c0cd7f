-- The rules of findings.
use Rattle.std.specs.Prelude.{◌≡◌, ◌≢◌, ◌++◌, [], ◌∷◌, ℕ, Bool, List, bytes_eq, if◌then◌else◌}
use Rattle.std.specs.List.{AllPairs, Contains, list_any}
use Rattle.cargo_lock_report.specs.declared.rules.ListedRule.{ListedRule}
use Rattle.cargo_lock_report.specs.Reported.{ReportedData, RuleData}

-- the rule that a listed one of the program refers to
abbrev pub listed_rule : ListedRule → RuleData
listed_rule r = r.0.now

-- a rule of this id is among these
abbrev pub is_rule_of : List ℕ → RuleData → Bool
is_rule_of id r = bytes_eq r.id id

abbrev pub has_rule : List RuleData → List ℕ → Bool
has_rule rules id = list_any (is_rule_of id) rules

-- the rules with one more, unless one of its id is there
abbrev pub with_rule : List RuleData → RuleData → List RuleData
with_rule rules r = if has_rule rules r.id then rules else rules ++ r ∷ []

-- the rules with those of findings
abbrev pub with_rules : List RuleData → List ReportedData → List RuleData
with_rules rules [] = rules
with_rules rules (f ∷ rest) = with_rules (with_rule rules f.rule) rest

-- the rules of findings, in the order in which they come first
abbrev pub rules_of : List ReportedData → List RuleData
rules_of = with_rules []

-- ---- law

-- the rules of findings: each finding has the id of one of them, no two of them have one id, and each
-- of them is the rule of a finding
pub record AreRulesOf (findings : List ReportedData) (rules : List RuleData) : Type 0 where
  pub all : (f : ReportedData) → Contains findings f
      → (r : RuleData) × Contains rules r × (r.id ≡ f.rule.id)
  pub once : AllPairs (λ r s. r.id ≢ s.id) rules
  pub own : (r : RuleData) → Contains rules r
      → (f : ReportedData) × Contains findings f × (f.rule ≡ r)

abbrev pub RulesAreThoseOfFindings : Type 0
RulesAreThoseOfFindings = (findings : List ReportedData) → AreRulesOf findings (rules_of findings)
