-- Each line is one line: each part of it is printable.
use Rattle.std.proofs.Common.{ℕ, Bool, false, List, codes, Option, Some, None, refl}
use Rattle.printing.specs.declared.form.Form.TheVariants.{Plain, Quoted}
use Rattle.printing.proofs.LinesOf.{each-is-line}
use Rattle.printing.proofs.Printable.{Prints, either_text, empty, join, literal, shown-prints, words}
use Rattle.cargo_lock_parts.specs.Identity.{Identity, PackageData, identity_of}
use Rattle.cargo_lock_parts.specs.IdentityOrder.{is_same_identity}
use Rattle.cargo_lock_parts.specs.Source.{Branch, DefaultBranch, Directory, Git, GitReference, Kind, LocalRegistry, Path, Registry, Rev, Source, SparseRegistry, Tag, is_git}
use Rattle.std.specs.Borrow.{Bor}
use Rattle.cargo_lock_merge_core.specs.declared.conflicts.Conflict as merging
use Rattle.cargo_lock_merge_core.specs.declared.conflicts.Kind as matter
use Rattle.cargo_lock_merge_core.specs.declared.conflicts.Kind.TheVariants as kind
use Rattle.cargo_lock_merge_core.specs.declared.moved.Reference.{Reference}
use Rattle.cargo_lock_merge_core.specs.declared.refusal.Refusal.{Refusal}
use Rattle.cargo_lock_merge_core.specs.declared.refusal.Refusal.TheVariants.{Lost, OnePlace, TwoCommits, Unreplaced}
use Rattle.cargo_lock_merge_core.specs.declared.triple.Role.{Role}
use Rattle.cargo_lock_merge_core.specs.declared.triple.Role.TheVariants as role
use Rattle.cargo_lock_merge.specs.declared.conflict.Conflict.{Conflict}
use Rattle.cargo_lock_merge.specs.declared.conflict.Conflict.TheVariants.{AtPlace, OfSource}
use Rattle.cargo_lock_merge.specs.declared.conflict.Subject.{Subject}
use Rattle.cargo_lock_merge.specs.declared.conflict.Subject.TheVariants as subject
use Rattle.cargo_lock_merge.specs.declared.moved.Moved.{Moved}
use Rattle.cargo_lock_merge.specs.declared.words.Value.{Value}
use Rattle.cargo_lock_merge.specs.declared.words.Value.TheVariants as value
use Rattle.cargo_lock_merge.specs.declared.words.Values.{Values}
use Rattle.cargo_lock_merge.specs.Lines.{ConflictsAreLines, MovedAreLines, NoticesAreLines, RefusalsAreLines, before_text, commit_values, conflict_line, lacks_checksum, line_of, moved_line, moved_text, notice_by, notice_line, one_place_text, reason_text, refused_line, role_text, sides_named, subject_text, versions_text}
use Rattle.cargo_lock_merge.specs.Words.{bare_source_behind, bare_text, both_text, commit_mark, commit_text, identity_text, mark_of, query_of, reference_query, replacement_with_commit, side_value_text, source_text, values_by, values_text, with_commit_text}
use Rattle.cargo_lock_display.proofs.Printed.{checksum-prints, named-prints}

mark-prints : (c : Option (List ℕ)) → Prints (mark_of c)
mark-prints None = empty
mark-prints (Some c) = words (codes "#") refl (shown-prints Plain _)

commit-mark-prints : (s : Option Source) → Prints (commit_mark s)
commit-mark-prints None = empty
commit-mark-prints (Some s) = either_text (is_git s.kind) (mark-prints s.precise) empty

with-commit-prints : (p : PackageData) → Prints (with_commit_text p)
with-commit-prints p = join (named-prints p) (commit-mark-prints p.source)

identity-prints : (i : Identity) → Prints (identity_text i)
identity-prints i = join (shown-prints Plain i.name) (words (codes " ") refl (join (shown-prints Plain _) (commit-mark-prints i.source)))

commit-prints : (c : Option (List ℕ)) → Prints (commit_text c)
commit-prints None = literal (codes "none") refl
commit-prints (Some c) = shown-prints Plain _

reference-prints : (r : GitReference) → Prints (reference_query r)
reference-prints DefaultBranch = empty
reference-prints (Tag v) = words (codes "?") refl (shown-prints Plain _)
reference-prints (Branch v) = words (codes "?") refl (shown-prints Plain _)
reference-prints (Rev v) = words (codes "?") refl (shown-prints Plain _)

query-prints : (k : Kind) → Prints (query_of k)
query-prints (Git r) = reference-prints r
query-prints Path = empty
query-prints Registry = empty
query-prints SparseRegistry = empty
query-prints LocalRegistry = empty
query-prints Directory = empty

bare-prints : (s : Source) → Prints (bare_text s)
bare-prints s = words (codes "git+") refl (join (shown-prints Plain _) (query-prints s.kind))

source-prints : (s : Source) → Prints (source_text s)
source-prints s = either_text (is_git s.kind) (bare-prints s) (shown-prints Plain _)

behind-prints : (s : Option Source) → Prints (bare_source_behind s)
behind-prints None = empty
behind-prints (Some s) = words (codes " (") refl (join (source-prints s) (literal (codes ")") refl))

replacement-prints : (i : Option Identity) → Prints (replacement_with_commit i)
replacement-prints None = literal (codes "none") refl
replacement-prints (Some i) = identity-prints i

value-prints : (v : Value) → Prints (side_value_text v)
value-prints (value.Version p) = shown-prints Plain _
value-prints (value.Commit s) = commit-prints s.now.precise
value-prints (value.Checksum p) = checksum-prints p.now.checksum
value-prints (value.Replacement p) = replacement-prints p.now.replace
value-prints value.Absent = literal (codes "none") refl

both-prints : (o t : Value) → Prints (both_text o t)
both-prints o t = join (value-prints o) (words (codes " (ours), ") refl (join (value-prints t) (literal (codes " (theirs)") refl)))

by-prints : (b : Option Value) (o t : Value) → Prints (values_by b o t)
by-prints None o t = both-prints o t
by-prints (Some b) o t = join (value-prints b) (words (codes " -> ") refl (both-prints o t))

values-print : (v : Values) → Prints (values_text v)
values-print v = by-prints v.old v.ours v.theirs

subject-prints : (s : Subject) → Prints (subject_text s)
subject-prints (subject.Package p) = shown-prints Plain _
subject-prints (subject.Source p) = words (codes "source of ") refl (shown-prints Plain _)
subject-prints (subject.Checksum p) = words (codes "checksum of ") refl (named-prints p.now)
subject-prints (subject.Replacement p) = words (codes "replacement of ") refl (named-prints p.now)
subject-prints subject.Nothing = literal (codes "none") refl

conflict-prints : (c : Conflict) → Prints (conflict_line c)
conflict-prints (AtPlace c) = words (codes "conflict: ") refl (join (subject-prints (line_of c).subject) (words (codes ": ") refl (values-print (line_of c).values)))
conflict-prints (OfSource c) = words (codes "conflict: ") refl (join (bare-prints c.source.now) (words (codes ": ") refl (values-print (commit_values c.base c))))

pub conflicts-are-lines : ConflictsAreLines
conflicts-are-lines = each-is-line conflict_line conflict-prints

moved-text-prints : (r : Reference) (b : Bool) → Prints (moved_text r b)
moved-text-prints r b = either_text b
    (join (with-commit-prints r.from.now) (join (behind-prints r.from.now.source) (words (codes " on ") refl (join (with-commit-prints r.to.now) (behind-prints r.to.now.source)))))
    (join (with-commit-prints r.from.now) (words (codes " on ") refl (with-commit-prints r.to.now)))

before-prints : (o t : Option Reference) → Prints (before_text o t)
before-prints None None = empty
before-prints (Some o) None = words (codes " (ours: ") refl (join (moved-text-prints o false) (literal (codes ")") refl))
before-prints None (Some t) = words (codes " (theirs: ") refl (join (moved-text-prints t false) (literal (codes ")") refl))
before-prints (Some o) (Some t) = words (codes " (ours: ") refl (join (moved-text-prints o false) (words (codes ", theirs: ") refl (join (moved-text-prints t false) (literal (codes ")") refl))))

moved-prints : (r : Moved) → Prints (moved_line r)
moved-prints r = words (codes "moved: ") refl (join (moved-text-prints r.found.merged r.with_sources) (before-prints r.found.ours r.found.theirs))

pub moved-are-lines : MovedAreLines
moved-are-lines = each-is-line moved_line moved-prints

versions-print : (o t : PackageData) → Prints (versions_text o t)
versions-print o t = join (shown-prints Plain _) (words (codes ": ") refl (join (shown-prints Plain _) (words (codes " (ours), ") refl (join (shown-prints Plain _) (literal (codes " (theirs)") refl)))))

sides-print : (o t : Bool) → Prints (sides_named o t)
sides-print o t = either_text o
    (either_text t (literal (codes "ours and theirs") refl) (literal (codes "ours") refl))
    (either_text t (literal (codes "theirs") refl) (literal (codes "none") refl))

none-prints : Prints (codes "none")
none-prints = literal (codes "none") refl

notice-by-prints : (k : matter.Kind) (b o t : Option (Bor PackageData)) → Prints (notice_by k b o t)
notice-by-prints kind.Version b (Some o) (Some t) = words (codes "version: ") refl (join (versions-print o.now t.now) (literal (codes ": its manifest decides") refl))
notice-by-prints kind.Version b None t = none-prints
notice-by-prints kind.Version b (Some o) None = none-prints
notice-by-prints kind.LostChecksum None o t = none-prints
notice-by-prints kind.LostChecksum (Some b) o t = words (codes "alarm: ") refl (join (named-prints b.now) (words (codes ": checksum gone in ") refl (sides-print (lacks_checksum b.now o) (lacks_checksum b.now t))))
notice-by-prints kind.Package b o t = none-prints
notice-by-prints kind.Checksum b o t = none-prints
notice-by-prints kind.Replacement b o t = none-prints

notice-prints : (c : merging.Conflict) → Prints (notice_line c)
notice-prints c = notice-by-prints c.kind c.base c.ours c.theirs

pub notices-are-lines : NoticesAreLines
notices-are-lines = each-is-line notice_line notice-prints

role-prints : (r : Role) → Prints (role_text r)
role-prints role.Base = literal (codes "base") refl
role-prints role.Ours = literal (codes "ours") refl
role-prints role.Theirs = literal (codes "theirs") refl

place-prints : (p q : PackageData) → Prints (one_place_text p q)
place-prints p q = either_text (is_same_identity (identity_of p) (identity_of q))
    (words (codes "package ") refl (join (named-prints p) (literal (codes " is listed twice") refl)))
    (words (codes "packages ") refl (join (named-prints p) (words (codes " and ") refl (join (named-prints q) (literal (codes " are at one place") refl)))))

reason-prints : (r : Refusal) → Prints (reason_text r)
reason-prints (OnePlace p q) = place-prints p.now q.now
reason-prints (TwoCommits a b) = join (bare-prints a.now) (words (codes " is at ") refl (join (commit-prints a.now.precise) (words (codes " and ") refl (commit-prints b.now.precise))))
reason-prints (Unreplaced p) = words (codes "no package is the replacement of ") refl (named-prints p.now)
reason-prints (Lost text) = shown-prints Quoted _

refused-prints : (r : Role × Refusal) → Prints (refused_line r.0 r.1)
refused-prints r = join (role-prints r.0) (words (codes ": ") refl (reason-prints r.1))

pub refusals-are-lines : RefusalsAreLines
refusals-are-lines = each-is-line (λ (r : Role × Refusal). refused_line r.0 r.1) refused-prints
