-- The changes that a difference reports, and the line of each.
use Rattle.std.specs.Prelude.{◌≡◌, ◌↔◌, ℕ, ◌&&◌, ◌||◌, Bool, not, List, [], ◌∷◌, ◌++◌, codes, filter, map}
use Rattle.std.specs.Prelude.{Option, Some, None, is_some, true, false, if◌then◌else◌}
use Rattle.std.specs.Prelude.{IsPermutation}
use Rattle.std.specs.List.{flat_map}
use Rattle.std.specs.Ordering.{is_gt}
use Rattle.std.specs.Str.Lines.{lines}
use Rattle.cargo_lock_parts.specs.Ascii.{newline}
use Rattle.cargo_lock_parts.specs.Identity.{Identity, PackageData}
use Rattle.cargo_lock_parts.specs.Source.{Source, is_of_registry}
use Rattle.cargo_lock_diff.specs.declared.change.Aspect.{Aspect}
use Rattle.cargo_lock_diff.specs.declared.change.Aspect.TheVariants as aspect
use Rattle.cargo_lock_diff.specs.declared.change.Change.{Change}
use Rattle.cargo_lock_diff.specs.declared.change.Change.TheVariants as variant
use Rattle.cargo_lock_diff.specs.declared.commits.Commits.{Commits}
use Rattle.cargo_lock_diff.specs.declared.commits.Commits.TheVariants.{Short}
use Rattle.cargo_lock_diff.specs.Commits.{own_commit, commits_text, have_one_repository}
use Rattle.cargo_lock_diff.specs.Dependencies.{have_other_dependencies, only_in}
use Rattle.cargo_lock_diff.specs.declared.accepted.Accepted.{Accepted}
use Rattle.cargo_lock_diff.specs.Difference.{DifferenceData, IsDifferenceBut, dependencies_at}
use Rattle.cargo_lock_diff.specs.Keys.{whole_key}
use Rattle.cargo_lock_diff.specs.Same.{have_one_line, have_one_place, have_one_replacement}
use Rattle.cargo_lock_diff.specs.Same.{have_one_version}
use Rattle.cargo_lock_order.specs.Precedence.{precedence_cmp}
use Rattle.cargo_lock_display.specs.Line.{checksum_text, dependency_shown, named_text, package_text}
use Rattle.cargo_lock_display.specs.Line.{replacement_shown, source_after_version, source_alone}
use Rattle.cargo_lock_display.specs.Line.{version_shown}

-- One thing that differs. An alarm of a checksum is of a new package and of an old one of its name
-- and version that has a checksum. An alarm of a new source is of a new package that comes from one
-- and of an old one of its name: of an added package, or of a pair of the same version; or it is of
-- a pair of two versions. A pair of the same version has another place, a checksum that only one of
-- its packages has, or another replacement; a pair may have another version. A package was removed or added. A
-- pair may have other dependencies: those that only the old one has, and those that only the new
-- one has.
pub data ChangeData : Type 0 where
  Alarm : PackageData → PackageData → ChangeData
  NewSource : PackageData → PackageData → ChangeData
  NewSourceUpdate : PackageData → PackageData → ChangeData
  Moved : PackageData → PackageData → ChangeData
  Checksum : PackageData → PackageData → ChangeData
  Replaced : PackageData → PackageData → ChangeData
  Updated : PackageData → PackageData → ChangeData
  Removed : PackageData → ChangeData
  Added : PackageData → ChangeData
  OtherDependencies : PackageData → PackageData → List Identity → List Identity → ChangeData

-- the change of the packages to which the references refer
abbrev pub change_of : Change → ChangeData
change_of (variant.Alarm old new) = Alarm old.now new.now
change_of (variant.NewSource old new) = NewSource old.now new.now
change_of (variant.NewSourceUpdate old new) = NewSourceUpdate old.now new.now
change_of (variant.Moved old new) = Moved old.now new.now
change_of (variant.Checksum old new) = Checksum old.now new.now
change_of (variant.Replaced old new) = Replaced old.now new.now
change_of (variant.Updated old new) = Updated old.now new.now
change_of (variant.Removed old) = Removed old.now
change_of (variant.Added new) = Added new.now
change_of (variant.OtherDependencies old new gone came) =
    OtherDependencies old.now new.now (dependencies_at gone.items) (dependencies_at came.items)

-- only the new package has a checksum
abbrev pub has_new_checksum : PackageData → PackageData → Bool
has_new_checksum old new = not (is_some old.checksum) && is_some new.checksum

-- only the old package has a checksum, and the new one comes from another place; at one place this
-- is an alarm
abbrev pub has_lost_checksum : PackageData → PackageData → Bool
has_lost_checksum old new =
    is_some old.checksum && (not (is_some new.checksum) && not (have_one_place old new))

-- the packages of a pair differ in an aspect; all but the version are compared only if the version
-- is the same
abbrev pub differs_in : Aspect → PackageData × PackageData → Bool
differs_in aspect.Source p = have_one_version p.0 p.1 && not (have_one_place p.0 p.1)
differs_in aspect.Checksum p = have_one_version p.0 p.1
    && (has_new_checksum p.0 p.1 || has_lost_checksum p.0 p.1)
differs_in aspect.Replacement p = have_one_version p.0 p.1 && not (have_one_replacement p.0 p.1)
differs_in aspect.Version p = not (have_one_version p.0 p.1)

-- the change of a pair in an aspect
abbrev pub change_in : Aspect → PackageData × PackageData → ChangeData
change_in aspect.Source p = Moved p.0 p.1
change_in aspect.Checksum p = Checksum p.0 p.1
change_in aspect.Replacement p = Replaced p.0 p.1
change_in aspect.Version p = Updated p.0 p.1

-- the changes of those pairs that differ in an aspect
abbrev pub changes_in : Aspect → List (PackageData × PackageData) → List ChangeData
changes_in one pairs = map (change_in one) (filter (differs_in one) pairs)

-- the alarm of a pair whose new package comes from a new source
abbrev pub strange_change : PackageData × PackageData → ChangeData
strange_change p = if have_one_version p.0 p.1 then NewSource p.0 p.1 else NewSourceUpdate p.0 p.1

-- the alarms of a difference: of checksums, of pairs from a new source, and of added packages from a
-- new source
abbrev pub alarms_of : DifferenceData → List ChangeData
alarms_of d = map (λ a. Alarm a.0 a.1) d.alarms
    ++ (map strange_change d.strange ++ map (λ a. NewSource a.0 a.1) d.came)

-- the changes of a difference, in the order in which they are reported: alarms first, then other
-- sources, checksums that only one has, other replacements, other versions, packages that were removed and
-- packages that were added. The alarm of a pair from a new source is in the place of its other
-- source or other version; one of an added package is beside it.
abbrev pub changes_of : DifferenceData → List ChangeData
changes_of d = alarms_of d ++ (changes_in aspect.Source d.usual
    ++ (changes_in aspect.Checksum d.pairs ++ (changes_in aspect.Replacement d.pairs
    ++ (changes_in aspect.Version d.usual ++ (map Removed d.removed ++ map Added d.added)))))

-- the dependencies that only one of the packages of a pair has, by the pairs of a difference
abbrev pub dependency_change_of : List (PackageData × PackageData) → PackageData × PackageData
    → ChangeData
dependency_change_of targets p = OtherDependencies p.0 p.1
    (only_in true targets p.0.dependencies p.1.dependencies)
    (only_in false targets p.1.dependencies p.0.dependencies)

-- the pairs with other dependencies by the pairs of a difference
abbrev pub other_dependencies : List (PackageData × PackageData)
    → List (PackageData × PackageData) → List ChangeData
other_dependencies targets pairs = map (dependency_change_of targets)
    (filter (λ p. have_other_dependencies targets p.0 p.1) pairs)

-- the changes of the dependencies of a difference, by all its pairs: of the pairs that are wholly
-- alike, and of the other pairs
abbrev pub dependency_changes_of : DifferenceData → List ChangeData
dependency_changes_of d = other_dependencies (d.kept ++ d.pairs) d.kept
    ++ other_dependencies (d.kept ++ d.pairs) d.pairs

-- all changes of a difference: its changes, and then the changes of dependencies if they are asked
-- for
abbrev pub all_changes_of : Bool → DifferenceData → List ChangeData
all_changes_of dependencies d = if dependencies then changes_of d ++ dependency_changes_of d
    else changes_of d

-- ---- lines

-- both sources
abbrev pub sources_text : PackageData → PackageData → List ℕ
sources_text old new = codes ": " ++ (source_alone old.source
    ++ (codes " -> " ++ source_alone new.source))

-- both checksums
abbrev pub checksums_text : PackageData → PackageData → List ℕ
checksums_text old new = codes ": checksum " ++ (checksum_text old.checksum
    ++ (codes " -> " ++ checksum_text new.checksum))

-- both sources, or both commits where all else of the sources stays
abbrev pub moved_sources : Commits → PackageData → PackageData → List ℕ
moved_sources commits old new = if have_one_repository old new
    then commits_text commits (own_commit old.source) (own_commit new.source)
    else sources_text old new

-- for a pair with other versions: both sources if the places differ, or else the source
abbrev pub updated_sources : Commits → PackageData → PackageData → List ℕ
updated_sources commits old new = if have_one_place old new then source_after_version new.source
    else moved_sources commits old new

-- the new version is less than the old one
abbrev pub is_downgrade : PackageData → PackageData → Bool
is_downgrade old new = is_gt (precedence_cmp old.version new.version)

-- the mark of a pair whose versions are of two release lines
abbrev pub incompatible_mark : PackageData → PackageData → List ℕ
incompatible_mark old new = if have_one_line old new then [] else codes " (incompatible)"

-- the mark of a pair whose new version is less than the old one
abbrev pub downgrade_mark : PackageData → PackageData → List ℕ
downgrade_mark old new = if is_downgrade old new then codes " (downgrade)" else []

-- the mark of a package of a registry that has no checksum
abbrev pub checksum_mark : PackageData → List ℕ
checksum_mark p =
    if is_of_registry p.source && not (is_some p.checksum) then codes ", no checksum" else []

-- a dependency with a sign before it, `-` for an old one and `+` for a new one
abbrev pub signed_text : Bool → Identity → List ℕ
signed_text is_old d = codes " " ++ ((if is_old then codes "-" else codes "+")
    ++ (codes " " ++ dependency_shown d))

-- each with its sign
abbrev pub signed_texts : Bool → List Identity → List ℕ
signed_texts is_old = flat_map (signed_text is_old)

-- a package of one version that moves: the version, and both sources or commits
abbrev pub moved_package : Commits → PackageData → PackageData → List ℕ
moved_package commits old new = named_text new ++ moved_sources commits old new

-- a pair of two versions: both, the source or both sources, and the marks
abbrev pub updated_text : Commits → PackageData → PackageData → List ℕ
updated_text commits old new = named_text old ++ (codes " -> " ++ (version_shown new.version
    ++ (updated_sources commits old new
    ++ (incompatible_mark old new ++ downgrade_mark old new))))

-- the line of a change
abbrev pub change_line_by : Commits → ChangeData → List ℕ
change_line_by commits (Alarm old new) = codes "! " ++ (package_text new ++ checksums_text old new)
change_line_by commits (NewSource old new) = codes "! " ++ moved_package commits old new
change_line_by commits (NewSourceUpdate old new) = codes "! " ++ updated_text commits old new
change_line_by commits (Moved old new) = codes "> " ++ moved_package commits old new
change_line_by commits (Checksum old new) = codes "? " ++ (package_text new ++ checksums_text old new)
change_line_by commits (Replaced old new) = codes "@ " ++ (package_text new ++ (codes ": replacement "
    ++ (replacement_shown old.replace ++ (codes " -> " ++ replacement_shown new.replace))))
change_line_by commits (Updated old new) = codes "~ " ++ updated_text commits old new
change_line_by commits (Removed old) = codes "- " ++ package_text old
change_line_by commits (Added new) = codes "+ " ++ (package_text new ++ checksum_mark new)
change_line_by commits (OtherDependencies old new gone came) = codes "= " ++ (package_text new
    ++ (codes ":" ++ (signed_texts true gone ++ signed_texts false came)))

-- the line of each change, with its newline
abbrev pub changes_by : Commits → List ChangeData → List ℕ
changes_by commits = flat_map (λ change. change_line_by commits change ++ newline ∷ [])

-- the same with short commits
abbrev pub change_line : ChangeData → List ℕ
change_line = change_line_by Short

abbrev pub changes_text : List ChangeData → List ℕ
changes_text = changes_by Short

-- ---- laws

-- each change is exactly one line, whatever its names, versions, sources and checksums hold
abbrev pub EachChangeIsOneLine : Type 0
EachChangeIsOneLine = (commits : Commits) (changes : List ChangeData)
    → lines (changes_by commits changes) ≡ map (change_line_by commits) changes

-- no change is reported exactly if the lists have the same whole keys, each as often
abbrev pub NoneIfPermuted : Type 0
NoneIfPermuted = (accepted : List Accepted) (olds news : List PackageData) (d : DifferenceData)
    → IsDifferenceBut accepted olds news d → (changes_of d ≡ []) ↔ IsPermutation (map whole_key olds) (map whole_key news)
