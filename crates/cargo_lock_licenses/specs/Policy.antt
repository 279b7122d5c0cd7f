-- What is allowed, and of which packages the licence is given.
use Rattle.std.specs.Prelude.{◌≡◌, ◌==◌, ◌&&◌, ◌++◌, [], ◌∷◌, ℕ, Bool, List}
use Rattle.std.specs.Prelude.{Option, None, Some, bytes_eq, if◌then◌else◌, length, map, nat_lt}
use Rattle.std.specs.Prelude.{option_map, string_bytes}
use Rattle.std.specs.List.{after_first, before_first, find, flat_map, list_any, position_or_len}
use Rattle.semver.specs.Identifiers.{parts_of}
use Rattle.semver.specs.Parse.{Parts}
use Rattle.cargo_lock_parts.specs.Identity.{PackageData}
use Rattle.cargo_lock_references.specs.Reference.{version_of}
use Rattle.cargo_lock_references.specs.ResolutionSearch.{has_version, same_parts}
use Rattle.cargo_lock_licenses.specs.Grammar.{IsExpression, Tree}
use Rattle.cargo_lock_licenses.specs.Terms.{IsTerm}
use Rattle.cargo_lock_licenses.specs.declared.policy.Exemption.{Exemption}
use Rattle.cargo_lock_licenses.specs.declared.policy.Given.{Given}
use Rattle.cargo_lock_licenses.specs.declared.policy.Policy.{Policy}

-- an expression that is given for packages of a name and a version, and the words that say so
pub record GivenData : Type 0 where
  pub words : List ℕ
  pub name : List ℕ
  pub version : Parts
  pub expression : List ℕ

-- a term that is allowed for packages of a name, of one version or of all, and the words that say so
pub record ExemptionData : Type 0 where
  pub words : List ℕ
  pub name : List ℕ
  pub version : Option Parts
  pub term : List ℕ

-- the terms that are allowed, what is given, and what is exempt
pub record PolicyData : Type 0 where
  pub allowed : List (List ℕ)
  pub given : List GivenData
  pub exemptions : List ExemptionData

abbrev pub given_of : Given → GivenData
given_of g = record {
  words = string_bytes g.words;
  name = string_bytes g.name;
  version = parts_of g.version;
  expression = string_bytes g.expression;
}

abbrev pub exemption_of : Exemption → ExemptionData
exemption_of x = record {
  words = string_bytes x.words;
  name = string_bytes x.name;
  version = option_map parts_of x.version;
  term = string_bytes x.term;
}

abbrev pub policy_of : Policy → PolicyData
policy_of p = record {
  allowed = map string_bytes p.allowed.items;
  given = map given_of p.given.items;
  exemptions = map exemption_of p.exemptions.items;
}

-- ---- packages

-- the expression is given for the package: the name and the version are its own
abbrev pub gives : PackageData → GivenData → Bool
gives p g = bytes_eq p.name g.name && same_parts p.version g.version

-- the exemption is for the package: the name is its own, and so is the version, if there is one
abbrev pub exempts : PackageData → ExemptionData → Bool
exempts p x = bytes_eq p.name x.name && has_version x.version p.version

-- the expression that is given for a package, the first of several
abbrev pub expression_for : PolicyData → PackageData → Option (List ℕ)
expression_for policy p = option_map (λ g. g.expression) (find (gives p) policy.given)

-- a package has an exemption
abbrev pub is_exempt : PolicyData → PackageData → Bool
is_exempt policy p = list_any (exempts p) policy.exemptions

-- the term of the exemption, if it is for the package
abbrev pub exempt_if : PackageData → ExemptionData → List (List ℕ)
exempt_if p x = if exempts p x then x.term ∷ [] else []

-- the terms that exemptions allow for a package
abbrev pub exempt_terms : List ExemptionData → PackageData → List (List ℕ)
exempt_terms exemptions p = flat_map (exempt_if p) exemptions

-- these terms and those of exemptions; where no term is allowed, each is
abbrev pub with_exempt : List (List ℕ) → List (List ℕ) → List (List ℕ)
with_exempt [] exempt = []
with_exempt (t ∷ ts) exempt = (t ∷ ts) ++ exempt

-- the terms that are allowed for a package: those for all, and those of its exemptions
abbrev pub terms_for : PolicyData → PackageData → List (List ℕ)
terms_for policy p = with_exempt policy.allowed (exempt_terms policy.exemptions p)

-- ---- words

-- `=` and `@`
abbrev pub is_equals_sign : ℕ → Bool
is_equals_sign c = c == 61

abbrev pub is_at_sign : ℕ → Bool
is_at_sign c = c == 64

-- the text has such a sign
abbrev pub has_sign : (ℕ → Bool) → List ℕ → Bool
has_sign is text = nat_lt (position_or_len is text) (length text)

-- what is before and after the first such sign of a text, if it has one
abbrev pub cut_at : (ℕ → Bool) → List ℕ → Option (List ℕ × List ℕ)
cut_at is text = if has_sign is text then Some (before_first is text, after_first is text) else None

-- the name and the version before and after the first `@` of a text
abbrev pub versioned_at : List ℕ → Parts → List ℕ × Parts
versioned_at name v = (name, v)

abbrev pub versioned_of : Option (List ℕ × List ℕ) → Option (List ℕ × Parts)
versioned_of None = None
versioned_of (Some x) = option_map (versioned_at x.0) (version_of x.1)

abbrev pub versioned : List ℕ → Option (List ℕ × Parts)
versioned text = versioned_of (cut_at is_at_sign text)

-- the name and the version of a text `NAME@VERSION` or `NAME`
abbrev pub pinned_at : List ℕ → Parts → List ℕ × Option Parts
pinned_at name v = (name, Some v)

abbrev pub pinned_of : List ℕ → Option (List ℕ × List ℕ) → Option (List ℕ × Option Parts)
pinned_of text None = Some (text, None)
pinned_of text (Some x) = option_map (pinned_at x.0) (version_of x.1)

abbrev pub pinned : List ℕ → Option (List ℕ × Option Parts)
pinned text = pinned_of text (cut_at is_at_sign text)

-- what is given by words `NAME@VERSION=EXPRESSION`, whatever the expression is
abbrev pub given_by : List ℕ → List ℕ → List ℕ × Parts → GivenData
given_by words expression v =
    record { words = words; name = v.0; version = v.1; expression = expression }

abbrev pub given_at : List ℕ → Option (List ℕ × List ℕ) → Option GivenData
given_at words None = None
given_at words (Some x) = option_map (given_by words x.1) (versioned x.0)

abbrev pub given_in : List ℕ → Option GivenData
given_in words = given_at words (cut_at is_equals_sign words)

-- the words give this, and its expression is one; or they give nothing
abbrev pub ReadsGivenAs : Option GivenData → Option GivenData → Type 0
ReadsGivenAs None read = read ≡ None
ReadsGivenAs (Some g) None = (e : Tree) → ¬ IsExpression g.expression e
ReadsGivenAs (Some g) (Some read) = (read ≡ g) × ((e : Tree) × IsExpression g.expression e)

abbrev pub ReadsGiven : List ℕ → Option GivenData → Type 0
ReadsGiven words = ReadsGivenAs (given_in words)

-- the exemption of words `NAME=TERM` or `NAME@VERSION=TERM`, whatever the term is
abbrev pub exemption_by : List ℕ → List ℕ → List ℕ × Option Parts → ExemptionData
exemption_by words term v = record { words = words; name = v.0; version = v.1; term = term }

abbrev pub exemption_at : List ℕ → Option (List ℕ × List ℕ) → Option ExemptionData
exemption_at words None = None
exemption_at words (Some x) = option_map (exemption_by words x.1) (pinned x.0)

abbrev pub exemption_in : List ℕ → Option ExemptionData
exemption_in words = exemption_at words (cut_at is_equals_sign words)

-- the words are this exemption, and its term is one; or they are none
abbrev pub ReadsExemptionAs : Option ExemptionData → Option ExemptionData → Type 0
ReadsExemptionAs None read = read ≡ None
ReadsExemptionAs (Some x) None = ¬ IsTerm x.term
ReadsExemptionAs (Some x) (Some read) = (read ≡ x) × IsTerm x.term

abbrev pub ReadsExemption : List ℕ → Option ExemptionData → Type 0
ReadsExemption words = ReadsExemptionAs (exemption_in words)
