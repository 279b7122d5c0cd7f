-- The lines that say why a package is there.
use Rattle.std.specs.Prelude.{ℕ, List}
use Rattle.std.specs.Prelude.{◌++◌, codes, drop, map, reverse, slice_get}
use Rattle.std.specs.List.{filter_map, flat_map}
use Rattle.cargo_lock_parts.specs.Identity.{PackageData}
use Rattle.cargo_lock_display.specs.Line.{package_among}
use Rattle.cargo_lock_query.specs.declared.lines.Answer.{Answer}
use Rattle.cargo_lock_query.specs.declared.lines.Answer.TheVariants as variant

-- Why a package is there: the packages of a chain, each of which needs the one before it, the first
-- one the package itself; or nothing leads to the package.
pub data AnswerData : Type 0 where
  Needed : PackageData → List PackageData → AnswerData
  Nothing : PackageData → AnswerData

-- the answer about the packages to which the references refer
abbrev pub answer_of : Answer → AnswerData
answer_of (variant.Needed p needers) = Needed p.now (map (λ p. p.now) needers.items)
answer_of (variant.Nothing p) = Nothing p.now

-- the packages of some nodes
abbrev pub packages_at : List PackageData → List ℕ → List PackageData
packages_at packages nodes = filter_map (λ node. slice_get packages node) nodes

-- the packages of a chain from its last node back, without that of the last node
abbrev pub needers_in : List PackageData → List ℕ → List PackageData
needers_in packages chain = drop 1 (reverse (packages_at packages chain))

-- ---- lines

-- the line of a package of a list that needs the one of the line before
abbrev pub needer_line : List PackageData → PackageData → List ℕ
needer_line list p = codes "\n  needed by " ++ package_among list p

-- the lines of an answer about a package of a list; the last one has no newline
abbrev pub answer_lines : List PackageData → AnswerData → List ℕ
answer_lines list (Needed p needers) = package_among list p ++ flat_map (needer_line list) needers
answer_lines list (Nothing p) = codes "nothing leads to " ++ package_among list p
