-- Requirements on versions, as advisories have them, by the precedence of SemVer 2.0: a pre-release
-- is a version like others, and build metadata counts for nothing.
use Rattle.std.specs.Prelude.{◌&&◌, ℕ, Bool, List, not}
use Rattle.std.specs.List.{list_all}
use Rattle.std.specs.Ordering.{is_gt, is_lt}
use Rattle.semver.specs.Parse.{Parts}
use Rattle.cargo_lock_order.specs.Precedence.{precedence_cmp}
use Rattle.cargo_lock_audit.specs.declared.requirement.Relation.{Relation}
use Rattle.cargo_lock_audit.specs.declared.requirement.Relation.TheVariants.{Exact, Greater}
use Rattle.cargo_lock_audit.specs.declared.requirement.Relation.TheVariants.{GreaterEq, Less}
use Rattle.cargo_lock_audit.specs.declared.requirement.Relation.TheVariants.{LessEq}

-- a bound: how versions that meet it relate to its version
pub record BoundData : Type 0 where
  pub relation : Relation
  pub version : Parts

-- a requirement: its text, and its bounds
pub record RequirementData : Type 0 where
  pub text : List ℕ
  pub bounds : List BoundData

-- the first version has lower precedence than the second one
abbrev pub is_before : Parts → Parts → Bool
is_before v w = is_lt (precedence_cmp v w)

-- the first version has higher precedence than the second one
abbrev pub is_after : Parts → Parts → Bool
is_after v w = is_gt (precedence_cmp v w)

-- the first version relates to the second one in this way
abbrev pub relates : Relation → Parts → Parts → Bool
relates Exact v w = not (is_before v w) && not (is_after v w)
relates Greater v w = is_after v w
relates GreaterEq v w = not (is_before v w)
relates Less v w = is_before v w
relates LessEq v w = not (is_after v w)

-- the version meets the bound
abbrev pub meets : Parts → BoundData → Bool
meets v b = relates b.relation v b.version

-- the version lies in the requirement: it meets each bound
abbrev pub lies_in : Parts → RequirementData → Bool
lies_in v r = list_all (meets v) r.bounds
