-- The rules of findings are theirs, each once.
use Rattle.std.proofs.Common.{◌≡◌, ◌≢◌, ◌⊎◌, ◌++◌, ◌∙◌, [], ◌∷◌, true, false, List, arith, bytes_eq, inl, inr, refl, subst, sym}
use Rattle.std.specs.List.{AllPairs, Contains}
use Rattle.std.proofs.lemmas.Bool.{cases_Bool, cond-false, cond-true}
use Rattle.std.proofs.lemmas.List.Elements.{Contains-append_left, Contains-push, Contains-push_cases}
use Rattle.std.proofs.lemmas.Slice.Eq.{bytes_eq-Decides}
use Rattle.lists.proofs.Members.{contains-cases, first-in, later-in, none-in}
use Rattle.lists.proofs.Pairs.{pairs-append}
use Rattle.lists.proofs.Tests.{any-none, any-one, not-both, only}
use Rattle.cargo_lock_report.specs.Reported.{ReportedData, RuleData}
use Rattle.cargo_lock_report.specs.Rules.{RulesAreThoseOfFindings, has_rule, is_rule_of, rules_of, with_rule, with_rules}

Differ : RuleData → RuleData → Type 0
Differ r s = r.id ≢ s.id

alone : (r : RuleData) → AllPairs Differ (r ∷ [])
unfolding Differ
alone r i j d lt low = absurd (omega (arith, lt, low))

-- ---- a rule more

with-there : (rules : List RuleData) (r : RuleData) → has_rule rules r.id ≡ true → with_rule rules r ≡ rules
with-there rules r there = cond-true (has_rule rules r.id) rules (rules ++ r ∷ []) there

with-new : (rules : List RuleData) (r : RuleData) → has_rule rules r.id ≡ false → with_rule rules r ≡ rules ++ r ∷ []
with-new rules r new = cond-false (has_rule rules r.id) rules (rules ++ r ∷ []) new

with-once : (rules : List RuleData) (r : RuleData) → AllPairs Differ rules → AllPairs Differ (with_rule rules r)
unfolding Differ
with-once rules r once = elim (cases_Bool (has_rule rules r.id)) [
  | inl there ↦ subst (AllPairs Differ) (sym (with-there rules r there)) once
  | inr new ↦ subst (AllPairs Differ) (sym (with-new rules r new))
      (pairs-append Differ rules (r ∷ []) once (alone r) (λ x y in-rules in-one same.
      let last : r ≡ y = only r y in-one in
      not-both (bytes_eq x.id r.id) ((bytes_eq-Decides x.id r.id).1 (same ∙ sym (λ i. (last i).id))) (any-none (is_rule_of r.id) rules new x in-rules)))
]

with-kept : (rules : List RuleData) (r x : RuleData) → Contains rules x → Contains (with_rule rules r) x
with-kept rules r x there = elim (cases_Bool (has_rule rules r.id)) [
  | inl has ↦ subst (λ rs. Contains rs x) (sym (with-there rules r has)) there
  | inr new ↦ subst (λ rs. Contains rs x) (sym (with-new rules r new)) (Contains-append_left rules (r ∷ []) x there)
]

with-has : (rules : List RuleData) (r : RuleData) → (x : RuleData) × Contains (with_rule rules r) x × (x.id ≡ r.id)
with-has rules r = elim (cases_Bool (has_rule rules r.id)) [
  | inl has ↦ let (x, there, is) = any-one (is_rule_of r.id) rules has in
      (x, subst (λ rs. Contains rs x) (sym (with-there rules r has)) there, (bytes_eq-Decides x.id r.id).0 is)
  | inr new ↦ (r, subst (λ rs. Contains rs r) (sym (with-new rules r new)) (Contains-push rules r), refl)
]

with-own : (rules : List RuleData) (r x : RuleData) → Contains (with_rule rules r) x → Contains rules x ⊎ (r ≡ x)
with-own rules r x there = elim (cases_Bool (has_rule rules r.id)) [
  | inl has ↦ inl (subst (λ rs. Contains rs x) (with-there rules r has) there)
  | inr new ↦ Contains-push_cases rules r x (subst (λ rs. Contains rs x) (with-new rules r new) there)
]

-- ---- the rules of all

all-once : (findings : List ReportedData) (rules : List RuleData) → AllPairs Differ rules → AllPairs Differ (with_rules rules findings)
all-once [] rules once = once
all-once (f ∷ rest) rules once = all-once rest (with_rule rules f.rule) (with-once rules f.rule once)

all-kept : (findings : List ReportedData) (rules : List RuleData) (r : RuleData) → Contains rules r → Contains (with_rules rules findings) r
all-kept [] rules r there = there
all-kept (f ∷ rest) rules r there = all-kept rest (with_rule rules f.rule) r (with-kept rules f.rule r there)

all-have : (findings : List ReportedData) (rules : List RuleData) (f : ReportedData) → Contains findings f
    → (r : RuleData) × Contains (with_rules rules findings) r × (r.id ≡ f.rule.id)
all-have [] rules f there = absurd (none-in f there)
all-have (g ∷ rest) rules f there = elim (contains-cases g rest f there) [
  | inl same ↦ let (r, has, is) = with-has rules g.rule in
      (r, all-kept rest (with_rule rules g.rule) r has, is ∙ (λ i. (same i).rule.id))
  | inr later ↦ all-have rest (with_rule rules g.rule) f later
]

all-own : (findings : List ReportedData) (rules : List RuleData) (r : RuleData) → Contains (with_rules rules findings) r
    → Contains rules r ⊎ ((f : ReportedData) × Contains findings f × (f.rule ≡ r))
all-own [] rules r there = inl there
all-own (f ∷ rest) rules r there = elim (all-own rest (with_rule rules f.rule) r there) [
  | inl early ↦ elim (with-own rules f.rule r early) [
    | inl old ↦ inl old
    | inr new ↦ inr (f, first-in f rest, new)
  ]
  | inr (g, later, is) ↦ inr (g, later-in f rest g later, is)
]

none-once : AllPairs Differ []
none-once i j d lt low = absurd (omega (arith, low))

own : (findings : List ReportedData) (r : RuleData) → Contains (rules_of findings) r → (f : ReportedData) × Contains findings f × (f.rule ≡ r)
own findings r there = elim (all-own findings [] r there) [
  | inl none ↦ absurd (none-in r none)
  | inr found ↦ found
]

pub rules-are-those-of-findings : RulesAreThoseOfFindings
unfolding Differ
rules-are-those-of-findings findings = record {
  all = λ f there. all-have findings [] f there;
  once = all-once findings [] none-once;
  own = own findings;
}
