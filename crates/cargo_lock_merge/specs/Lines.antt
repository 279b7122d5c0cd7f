-- The lines of conflicts, of moved references and of refusals.
use Rattle.std.specs.Prelude.{◌≡◌, ◌&&◌, ℕ, Bool, List, [], ◌∷◌, ◌++◌, codes, false, map, Option, Some}
use Rattle.std.specs.Prelude.{None, is_none, is_some, option_map, string_bytes}
use Rattle.std.specs.Prelude.{if◌then◌else◌}
use Rattle.std.specs.Borrow.{Bor}
use Rattle.std.specs.Fmt.{digits}
use Rattle.std.specs.List.{flat_map}
use Rattle.std.specs.Str.Lines.{lines}
use Rattle.semver.specs.Identifiers.{parts_text}
use Rattle.cargo_lock_parts.specs.Ascii.{newline}
use Rattle.cargo_lock_parts.specs.Identity.{PackageData, identity_of}
use Rattle.cargo_lock_parts.specs.IdentityOrder.{is_same_identity}
use Rattle.cargo_lock_parts.specs.Source.{Source}
use Rattle.cargo_lock_merge_core.specs.declared.commits.SourceCommits.{SourceCommits}
use Rattle.cargo_lock_merge_core.specs.declared.conflicts.Conflict as merging
use Rattle.cargo_lock_merge_core.specs.declared.conflicts.Kind.{Kind}
use Rattle.cargo_lock_merge_core.specs.declared.conflicts.Kind.TheVariants as kind
use Rattle.cargo_lock_merge_core.specs.declared.moved.Reference.{Reference}
use Rattle.cargo_lock_merge_core.specs.declared.refusal.Refusal.{Refusal}
use Rattle.cargo_lock_merge_core.specs.declared.refusal.Refusal.TheVariants.{Lost, OnePlace, TwoCommits}
use Rattle.cargo_lock_merge_core.specs.declared.refusal.Refusal.TheVariants.{Unreplaced}
use Rattle.cargo_lock_merge_core.specs.declared.triple.Role.{Role}
use Rattle.cargo_lock_merge_core.specs.declared.triple.Role.TheVariants as role
use Rattle.cargo_lock_merge.specs.declared.conflict.Conflict.{Conflict}
use Rattle.cargo_lock_merge.specs.declared.conflict.Conflict.TheVariants.{AtPlace, OfSource}
use Rattle.cargo_lock_merge.specs.declared.conflict.Line.{Line}
use Rattle.cargo_lock_merge.specs.declared.conflict.Subject.{Subject}
use Rattle.cargo_lock_merge.specs.declared.conflict.Subject.TheVariants as subject
use Rattle.cargo_lock_merge.specs.declared.lockfiles.LockfileConflicts.{LockfileConflicts}
use Rattle.cargo_lock_merge.specs.declared.lockfiles.MergeError.{MergeError}
use Rattle.cargo_lock_merge.specs.declared.lockfiles.MergeError.TheVariants as error
use Rattle.cargo_lock_merge.specs.declared.metadata.MetadataConflict.{MetadataConflict}
use Rattle.cargo_lock_merge.specs.declared.moved.Moved.{Moved}
use Rattle.cargo_lock_merge.specs.declared.notice.Remarks.{Remarks}
use Rattle.cargo_lock_merge.specs.declared.words.Value.{Value}
use Rattle.cargo_lock_merge.specs.declared.words.Value.TheVariants as value
use Rattle.cargo_lock_merge.specs.declared.words.Values.{Values}
use Rattle.cargo_lock_references.specs.Format.{number_of}
use Rattle.cargo_lock_references.specs.declared.version.ResolveVersion.{ResolveVersion}
use Rattle.cargo_lock_merge.specs.Words.{bare_source_behind, bare_text, commit_text}
use Rattle.cargo_lock_display.specs.Line.{named_text}
use Rattle.cargo_lock_merge.specs.Words.{values_text, with_commit_text}
use Rattle.printing.specs.Shown.{shown}
use Rattle.printing.specs.declared.form.Form.TheVariants.{Plain, Quoted}

-- ---- conflicts

-- what the conflict is about
abbrev pub subject_text : Subject → List ℕ
subject_text (subject.Package p) = shown Plain p.now.name
subject_text (subject.Source p) = codes "source of " ++ shown Plain p.now.name
subject_text (subject.Checksum p) = codes "checksum of " ++ named_text p.now
subject_text (subject.Replacement p) = codes "replacement of " ++ named_text p.now
subject_text subject.Nothing = codes "none"

-- a commit that may be absent
abbrev pub commit_value : Option (Bor Source) → Value
commit_value None = value.Absent
commit_value (Some s) = value.Commit s

-- the commits of a source, after an old one
abbrev pub commit_values : Option (Bor Source) → SourceCommits → Values
commit_values old c = record {
  old = option_map value.Commit old;
  ours = commit_value c.ours;
  theirs = commit_value c.theirs;
}

-- none
abbrev pub absent : Values
absent = record { old = None; ours = value.Absent; theirs = value.Absent }

-- the package, if it has the identity of another one
abbrev pub same_if : Option (Bor PackageData) → PackageData → Option (Bor PackageData)
same_if None q = None
same_if (Some p) q = if is_same_identity (identity_of p.now) (identity_of q) then Some p else None

-- the checksum of a package, if it has one
abbrev pub checksum_of_side : Option (Bor PackageData) → Option Value
checksum_of_side None = None
checksum_of_side (Some p) = if is_some p.now.checksum then Some (value.Checksum p) else None

-- the replacement of a package, if it has one
abbrev pub replacement_value : Option (Bor PackageData) → Option Value
replacement_value None = None
replacement_value (Some p) = if is_some p.now.replace then Some (value.Replacement p) else None

-- of a package that one side alone has, at another commit of its source than the merged one
abbrev pub other_commit_line : Bor PackageData → Option SourceCommits → Line
other_commit_line p None = record { subject = subject.Source p; values = absent }
other_commit_line p (Some c) = record { subject = subject.Source p; values = commit_values None c }

-- the checksum of a package, or none where there is no package
abbrev pub side_checksum : Option (Bor PackageData) → Value
side_checksum None = value.Absent
side_checksum (Some p) = value.Checksum p

-- of the checksums that the identity of the chosen package has
abbrev pub two_checksums_line : merging.Conflict → Option (Bor PackageData) → Line
two_checksums_line c None = record { subject = subject.Nothing; values = absent }
two_checksums_line c (Some x) = record {
  subject = subject.Checksum x;
  values = record {
    old = checksum_of_side (same_if c.base x.now);
    ours = side_checksum (same_if c.ours x.now);
    theirs = side_checksum (same_if c.theirs x.now);
  };
}

-- what a conflict of this kind is about, and what the three have, where the sides have these packages
abbrev pub line_by : Kind → Option (Bor PackageData) → Option (Bor PackageData) → merging.Conflict
    → Line
line_by kind.Package (Some o) (Some t) c = record {
  subject = subject.Package o;
  values = record {
    old = option_map value.Version c.base;
    ours = value.Version o;
    theirs = value.Version t;
  };
}
line_by kind.Package (Some o) None c = other_commit_line o c.source
line_by kind.Package None (Some t) c = other_commit_line t c.source
line_by kind.Checksum o t c = two_checksums_line c c.chosen
line_by kind.Replacement (Some o) (Some t) c = record {
  subject = subject.Replacement o;
  values = record {
    old = replacement_value (same_if c.base o.now);
    ours = value.Replacement o;
    theirs = value.Replacement t;
  };
}
line_by kind o t c = record { subject = subject.Nothing; values = absent }

-- the same of the conflict
abbrev pub line_of : merging.Conflict → Line
line_of c = line_by c.kind c.ours c.theirs c

-- the line of a conflict
abbrev pub conflict_line : Conflict → List ℕ
conflict_line (AtPlace c) = codes "conflict: " ++ (subject_text (line_of c).subject
    ++ (codes ": " ++ values_text (line_of c).values))
conflict_line (OfSource c) = codes "conflict: " ++ (bare_text c.source.now
    ++ (codes ": " ++ values_text (commit_values c.base c)))

-- ---- moved references

-- both packages of a reference, with their sources or without
abbrev pub moved_text : Reference → Bool → List ℕ
moved_text r with_sources = if with_sources
    then with_commit_text r.from.now ++ (bare_source_behind r.from.now.source ++ (codes " on "
    ++ (with_commit_text r.to.now ++ bare_source_behind r.to.now.source)))
    else with_commit_text r.from.now ++ (codes " on " ++ with_commit_text r.to.now)

-- the references that the sides have at the places
abbrev pub before_text : Option Reference → Option Reference → List ℕ
before_text None None = []
before_text (Some o) None = codes " (ours: " ++ (moved_text o false ++ codes ")")
before_text None (Some t) = codes " (theirs: " ++ (moved_text t false ++ codes ")")
before_text (Some o) (Some t) = codes " (ours: " ++ (moved_text o false ++ (codes ", theirs: "
    ++ (moved_text t false ++ codes ")")))

-- the line of a moved reference
abbrev pub moved_line : Moved → List ℕ
moved_line r = codes "moved: " ++ (moved_text r.found.merged r.with_sources
    ++ before_text r.found.ours r.found.theirs)

-- the lines of moved references
abbrev pub moved_lines : List Moved → List ℕ
moved_lines = flat_map (λ r. moved_line r ++ newline ∷ [])

-- ---- notices

-- the name of a member of the workspace, and its two new versions
abbrev pub versions_text : PackageData → PackageData → List ℕ
versions_text o t = shown Plain o.name ++ (codes ": " ++ (shown Plain (parts_text o.version)
    ++ (codes " (ours), " ++ (shown Plain (parts_text t.version) ++ codes " (theirs)"))))

-- the package is there, has the identity of p, and no checksum
abbrev pub lacks_checksum : PackageData → Option (Bor PackageData) → Bool
lacks_checksum p None = false
lacks_checksum p (Some q) = is_same_identity (identity_of q.now) (identity_of p)
    && is_none q.now.checksum

-- the sides that these say
abbrev pub sides_named : Bool → Bool → List ℕ
sides_named ours theirs = if ours
    then (if theirs then codes "ours and theirs" else codes "ours")
    else (if theirs then codes "theirs" else codes "none")

-- the sides that lost the checksum of a package
abbrev pub sides_of_loss : PackageData → Option (Bor PackageData) → Option (Bor PackageData)
    → List ℕ
sides_of_loss b o t = sides_named (lacks_checksum b o) (lacks_checksum b t)

-- the line of what is told of a place, of this kind, where the three have these packages
abbrev pub notice_by : Kind → Option (Bor PackageData) → Option (Bor PackageData)
    → Option (Bor PackageData) → List ℕ
notice_by kind.Version b (Some o) (Some t) = codes "version: " ++ (versions_text o.now t.now
    ++ codes ": its manifest decides")
notice_by kind.LostChecksum (Some b) o t = codes "alarm: " ++ (named_text b.now
    ++ (codes ": checksum gone in " ++ sides_of_loss b.now o t))
notice_by kind b o t = codes "none"

-- the same of a notice
abbrev pub notice_line : merging.Conflict → List ℕ
notice_line c = notice_by c.kind c.base c.ours c.theirs

-- the lines of notices
abbrev pub notice_lines : List merging.Conflict → List ℕ
notice_lines = flat_map (λ c. notice_line c ++ newline ∷ [])

-- the lines of all that a merge reports
abbrev pub remark_lines : Remarks → List ℕ
remark_lines r = notice_lines r.notices.items ++ moved_lines r.moved.items

-- ---- refusals

-- the part of a lockfile
abbrev pub role_text : Role → List ℕ
role_text role.Base = codes "base"
role_text role.Ours = codes "ours"
role_text role.Theirs = codes "theirs"

-- two packages at one place, which may have one identity
abbrev pub one_place_text : PackageData → PackageData → List ℕ
one_place_text p q = if is_same_identity (identity_of p) (identity_of q)
    then codes "package " ++ (named_text p ++ codes " is listed twice")
    else codes "packages " ++ (named_text p ++ (codes " and " ++ (named_text q ++ codes
    " are at one place")))

-- why a lockfile is refused
abbrev pub reason_text : Refusal → List ℕ
reason_text (OnePlace p q) = one_place_text p.now q.now
reason_text (TwoCommits a b) = bare_text a.now ++ (codes " is at " ++ (commit_text a.now.precise
    ++ (codes " and " ++ commit_text b.now.precise)))
reason_text (Unreplaced p) = codes "no package is the replacement of " ++ named_text p.now
reason_text (Lost text) = shown Quoted (string_bytes text)

-- the line of a refusal
abbrev pub refused_line : Role → Refusal → List ℕ
refused_line part refusal = role_text part ++ (codes ": " ++ reason_text refusal)

-- the line of what stops a merge, without a newline
abbrev pub merge_error_text : MergeError → List ℕ
merge_error_text error.Memory = codes "out of memory"
merge_error_text (error.Root part) = role_text part ++ codes ": a root apart from the packages"
merge_error_text (error.Refused part refusal) = refused_line part refusal

-- ---- the conflicts of lockfiles

-- the lines of the conflicts of packages
abbrev pub conflict_lines : List Conflict → List ℕ
conflict_lines = flat_map (λ c. conflict_line c ++ newline ∷ [])

-- a value of the metadata, or `none`
abbrev pub metadata_value_text : Option (List ℕ) → List ℕ
metadata_value_text None = codes "none"
metadata_value_text (Some value) = codes "`" ++ (shown Quoted value ++ codes "`")

-- the value of the base and an arrow, if there is one
abbrev pub old_text : Option (List ℕ) → List ℕ
old_text None = []
old_text (Some value) = codes "`" ++ (shown Quoted value ++ codes "` -> ")

-- the line of a conflict about the value at a key of the metadata
abbrev pub metadata_line : List ℕ → MetadataConflict → List ℕ
metadata_line key c = codes "conflict: metadata `" ++ (shown Quoted key ++ (codes "`: "
    ++ (old_text c.base ++ (metadata_value_text c.ours ++ (codes " (ours), "
    ++ (metadata_value_text c.theirs ++ codes " (theirs)"))))))

-- the lines of these conflicts
abbrev pub metadata_conflict_lines : List (List ℕ × MetadataConflict) → List ℕ
metadata_conflict_lines = flat_map (λ e. metadata_line e.0 e.1 ++ newline ∷ [])

-- the line of a format that does not keep the merge
abbrev pub format_line : ResolveVersion → List ℕ
format_line format = codes "conflict: format V" ++ (digits 10 false (number_of format)
    ++ codes " does not keep the merge")

-- the same with its newline, if there is such a format
abbrev pub format_text : Option ResolveVersion → List ℕ
format_text None = []
format_text (Some format) = format_line format ++ newline ∷ []

-- the lines of all conflicts: of packages, of the metadata in the order of the keys, and of the
-- format
abbrev pub conflicts_text : LockfileConflicts → List ℕ
conflicts_text c = conflict_lines c.packages.items
    ++ (metadata_conflict_lines c.metadata.entries ++ format_text c.format)

-- ---- laws

-- each conflict is exactly one line, whatever its names, versions, sources and checksums hold
abbrev pub ConflictsAreLines : Type 0
ConflictsAreLines = (conflicts : List Conflict)
    → lines (conflict_lines conflicts) ≡ map conflict_line conflicts

-- so is each moved reference
abbrev pub MovedAreLines : Type 0
MovedAreLines = (moved : List Moved) → lines (moved_lines moved) ≡ map moved_line moved

-- so is each notice
abbrev pub NoticesAreLines : Type 0
NoticesAreLines = (notices : List merging.Conflict)
    → lines (notice_lines notices) ≡ map notice_line notices

-- so is each refusal, with the part of the lockfile
abbrev pub RefusalsAreLines : Type 0
RefusalsAreLines = (refusals : List (Role × Refusal))
    → lines (flat_map (λ r. refused_line r.0 r.1 ++ newline ∷ []) refusals)
    ≡ map (λ r. refused_line r.0 r.1) refusals
