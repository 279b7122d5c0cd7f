-- The requirement that a text is. The comparators are those that `semver` reads. A number that is
-- left out is 0. `^` and `~` are the only comparator of a requirement: they begin at their version,
-- and end before the lowest pre-release of the next version, as in `>=1.2.3, <2.0.0-0` for
-- `^1.2.3`. A text with `*` is no requirement.
use Rattle.std.specs.Prelude.{◌+◌, ◌^◌, [], ◌∷◌, ℕ, List, Option, None, Some}
use Rattle.std.specs.Prelude.{codes}
use Rattle.std.specs.Prelude.{if◌then◌else◌, nat_lt, option_map, unwrap_or}
use Rattle.std.specs.Option.{option_and_then}
use Rattle.std.specs.Result.{result_ok}
use Rattle.semver.specs.Parse.{Held, Parts, req_of}
use Rattle.semver.specs.declared.Op.{Op}
use Rattle.semver.specs.declared.Op.TheVariants as op
use Rattle.cargo_lock_audit.specs.declared.requirement.Relation.{Relation}
use Rattle.cargo_lock_audit.specs.declared.requirement.Relation.TheVariants.{Exact, Greater}
use Rattle.cargo_lock_audit.specs.declared.requirement.Relation.TheVariants.{GreaterEq, Less}
use Rattle.cargo_lock_audit.specs.declared.requirement.Relation.TheVariants.{LessEq}
use Rattle.cargo_lock_audit.specs.Requirement.{BoundData, RequirementData}

-- the version of a comparator
abbrev pub comparator_version : Held → Parts
comparator_version c = (c.1, unwrap_or c.2 0, unwrap_or c.3 0, c.4, [])

-- a major, a minor and a patch number
abbrev pub Numbers : Type 0
Numbers = ℕ × ℕ × ℕ

-- the lowest pre-release of the version with these numbers
abbrev pub lowest_of : Numbers → Parts
lowest_of n = (n.0, n.1, n.2, codes "0", [])

-- the next number, which has to fit 64 bits
abbrev pub next : ℕ → Option ℕ
next n = if nat_lt (n + 1) (2 ^ 64) then Some (n + 1) else None

-- the ends of ranges: at the next major, minor or patch number
abbrev pub next_major : ℕ → Option Numbers
next_major major = option_map (λ n. (n, 0, 0)) (next major)

abbrev pub next_minor : ℕ → ℕ → Option Numbers
next_minor major minor = option_map (λ n. (major, n, 0)) (next minor)

abbrev pub next_patch : ℕ → ℕ → ℕ → Option Numbers
next_patch major minor patch = option_map (λ n. (major, minor, n)) (next patch)

-- where `~` ends: at the next minor number, or at the next major one if no minor number is there
abbrev pub tilde_end : ℕ → Option ℕ → Option Numbers
tilde_end major None = next_major major
tilde_end major (Some minor) = next_minor major minor

-- where `^` ends with 0 as major and minor number
abbrev pub caret_end_of_patch : Option ℕ → Option Numbers
caret_end_of_patch None = next_minor 0 0
caret_end_of_patch (Some patch) = next_patch 0 0 patch

-- where `^` ends with 0 as major number
abbrev pub caret_end_of_minor : Option ℕ → Option ℕ → Option Numbers
caret_end_of_minor None patch = next_major 0
caret_end_of_minor (Some minor) patch =
    if nat_lt 0 minor then next_minor 0 minor else caret_end_of_patch patch

-- where `^` ends: at the next number of its first number that is not 0, or else of its last one
abbrev pub caret_end : ℕ → Option ℕ → Option ℕ → Option Numbers
caret_end major minor patch =
    if nat_lt 0 major then next_major major else caret_end_of_minor minor patch

-- how versions in a comparator relate to its version, for the operators with one bound
abbrev pub relation_of : Op → Option Relation
relation_of op.Exact = Some Exact
relation_of op.Greater = Some Greater
relation_of op.GreaterEq = Some GreaterEq
relation_of op.Less = Some Less
relation_of op.LessEq = Some LessEq
relation_of op.Tilde = None
relation_of op.Caret = None
relation_of op.Wildcard = None

-- the bound of a comparator with one
abbrev pub bound_of : Held → Option BoundData
bound_of c = option_map (λ r. record { relation = r; version = comparator_version c })
    (relation_of c.0)

-- the bounds of a range: it begins at one version, and ends before another one
abbrev pub range : Parts → Parts → List BoundData
range start end = record { relation = GreaterEq; version = start }
    ∷ record { relation = Less; version = end } ∷ []

-- where the range of a comparator with this operator ends
abbrev pub end_by : Op → Held → Option Numbers
end_by op.Tilde c = tilde_end c.1 c.2
end_by op.Caret c = caret_end c.1 c.2 c.3
end_by other c = None

-- where the range of a comparator ends
abbrev pub end_of : Held → Option Numbers
end_of c = end_by c.0 c

-- the bounds of comparators, each with one
abbrev pub all_bounds : List Held → Option (List BoundData)
all_bounds [] = Some []
all_bounds (c ∷ rest) =
    option_and_then (λ b. option_map (λ bs. b ∷ bs) (all_bounds rest)) (bound_of c)

-- the bounds of the only comparator, whose range, if it has one, ends there
abbrev pub bounds_until : Held → Option Numbers → Option (List BoundData)
bounds_until c (Some end) = Some (range (comparator_version c) (lowest_of end))
bounds_until c None = all_bounds (c ∷ [])

-- the bounds of the only comparator
abbrev pub bounds_alone : Held → Option (List BoundData)
bounds_alone c = bounds_until c (end_of c)

-- the bounds of comparators, of which there is one or more
abbrev pub bounds_of : List Held → Option (List BoundData)
bounds_of [] = None
bounds_of (c ∷ []) = bounds_alone c
bounds_of (c ∷ d ∷ rest) = all_bounds (c ∷ d ∷ rest)

-- the requirement that a text is
unfoldable pub requirement_of : List ℕ → Option RequirementData
requirement_of text = option_map (λ bounds. record { text = text; bounds = bounds })
    (option_and_then bounds_of (result_ok (req_of text)))
