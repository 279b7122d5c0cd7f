-- Each change is one line: each part of it is printable.
use Rattle.std.proofs.Common.{ℕ, Bool, true, false, List, Option, Some, None, codes, refl}
use Rattle.std.specs.Prelude.{◌&&◌, not, is_some}
use Rattle.printing.proofs.LinesOf.{each-is-line}
use Rattle.printing.proofs.Printable.{Prints, either_text, empty, join, join_each, literal, shown-prints, words}
use Rattle.printing.specs.declared.form.Form.TheVariants.{Plain}
use Rattle.cargo_lock_parts.specs.Identity.{Identity, PackageData}
use Rattle.cargo_lock_display.proofs.Printed.{alone-prints, behind-prints, checksum-prints, dependency-prints, named-prints, package-prints, replacement-prints, version-prints}
use Rattle.cargo_lock_diff.specs.Same.{have_one_line, have_one_place}
use Rattle.cargo_lock_diff.specs.Change.{Added, Alarm, ChangeData, Checksum, EachChangeIsOneLine}
use Rattle.cargo_lock_diff.specs.Change.{Moved, NewSource, NewSourceUpdate, OtherDependencies}
use Rattle.cargo_lock_diff.specs.Change.{Removed, Replaced, Updated, checksum_mark}
use Rattle.cargo_lock_diff.specs.Change.{checksums_text, downgrade_mark, incompatible_mark}
use Rattle.cargo_lock_diff.specs.Change.{is_downgrade}
use Rattle.cargo_lock_parts.specs.Source.{is_of_registry}
use Rattle.cargo_lock_diff.specs.Change.{change_line_by, moved_sources, moved_package}
use Rattle.cargo_lock_diff.specs.Change.{signed_text, signed_texts, sources_text}
use Rattle.cargo_lock_diff.specs.Change.{updated_sources, updated_text}
use Rattle.cargo_lock_diff.specs.declared.commits.Commits.{Commits}
use Rattle.cargo_lock_diff.specs.Commits.{commit_by, own_commit, commit_or_none, commits_for}
use Rattle.cargo_lock_diff.specs.Commits.{commits_text, have_one_repository}

sources-print : (old new : PackageData) → Prints (sources_text old new)
sources-print old new = words (codes ": ") refl (join (alone-prints old.source) (words (codes " -> ") refl (alone-prints new.source)))

checksums-print : (old new : PackageData) → Prints (checksums_text old new)
checksums-print old new = words (codes ": checksum ") refl (join (checksum-prints old.checksum)
    (words (codes " -> ") refl (checksum-prints new.checksum)))

commit-prints : (commits : Commits) (commit : Option (List ℕ)) → Prints (commit_or_none commits commit)
commit-prints commits None = literal (codes "none") refl
commit-prints commits (Some text) = shown-prints Plain (commit_by commits text)

commits-print : (commits : Commits) (old new : Option (List ℕ)) → Prints (commits_text commits old new)
commits-print commits old new = words (codes ": rev ") refl (join (commit-prints (commits_for commits old new) old)
    (words (codes " -> ") refl (commit-prints (commits_for commits old new) new)))

moved-sources-print : (commits : Commits) (old new : PackageData) → Prints (moved_sources commits old new)
moved-sources-print commits old new = either_text (have_one_repository old new)
    (commits-print commits (own_commit old.source) (own_commit new.source)) (sources-print old new)

updated-prints : (commits : Commits) (old new : PackageData) → Prints (updated_sources commits old new)
updated-prints commits old new = either_text (have_one_place old new) (behind-prints new.source) (moved-sources-print commits old new)

downgrade-prints : (old new : PackageData) → Prints (downgrade_mark old new)
downgrade-prints old new = either_text (is_downgrade old new) (literal (codes " (downgrade)") refl) empty

incompatible-prints : (old new : PackageData) → Prints (incompatible_mark old new)
incompatible-prints old new = either_text (have_one_line old new) empty (literal (codes " (incompatible)") refl)

mark-prints : (p : PackageData) → Prints (checksum_mark p)
mark-prints p = either_text (is_of_registry p.source && not (is_some p.checksum)) (literal (codes ", no checksum") refl) empty

signed-prints : (is_old : Bool) (d : Identity) → Prints (signed_text is_old d)
signed-prints is_old d =
    words (codes " ") refl (join (either_text is_old (literal (codes "-") refl) (literal (codes "+") refl)) (words (codes " ") refl (dependency-prints d)))

all-signed-print : (is_old : Bool) (ds : List Identity) → Prints (signed_texts is_old ds)
all-signed-print is_old = join_each (signed_text is_old) (signed-prints is_old)

moved-prints : (commits : Commits) (old new : PackageData) → Prints (moved_package commits old new)
moved-prints commits old new = join (named-prints new) (moved-sources-print commits old new)

update-prints : (commits : Commits) (old new : PackageData) → Prints (updated_text commits old new)
update-prints commits old new = join (named-prints old) (words (codes " -> ") refl
    (join (version-prints new.version) (join (updated-prints commits old new) (join (incompatible-prints old new) (downgrade-prints old new)))))

pub line-prints : (commits : Commits) (c : ChangeData) → Prints (change_line_by commits c)
line-prints commits (Alarm old new) = words (codes "! ") refl (join (package-prints new) (checksums-print old new))
line-prints commits (NewSource old new) = words (codes "! ") refl (moved-prints commits old new)
line-prints commits (NewSourceUpdate old new) = words (codes "! ") refl (update-prints commits old new)
line-prints commits (Moved old new) = words (codes "> ") refl (moved-prints commits old new)
line-prints commits (Checksum old new) = words (codes "? ") refl (join (package-prints new) (checksums-print old new))
line-prints commits (Replaced old new) = words (codes "@ ") refl (join (package-prints new) (words (codes ": replacement ") refl
    (join (replacement-prints old.replace) (words (codes " -> ") refl (replacement-prints new.replace)))))
line-prints commits (Updated old new) = words (codes "~ ") refl (update-prints commits old new)
line-prints commits (Removed old) = words (codes "- ") refl (package-prints old)
line-prints commits (Added new) = words (codes "+ ") refl (join (package-prints new) (mark-prints new))
line-prints commits (OtherDependencies old new gone came) = words (codes "= ") refl (join (package-prints new)
    (words (codes ":") refl (join (all-signed-print true gone) (all-signed-print false came))))

pub each-change-is-one-line : EachChangeIsOneLine
each-change-is-one-line commits = each-is-line (change_line_by commits) (line-prints commits)
