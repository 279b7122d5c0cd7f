-- The parts of the lines of conflicts, of moved references and of refusals.
use Rattle.std.specs.Prelude.{ℕ, List, [], ◌++◌, codes, Option, Some, None, false, if◌then◌else◌, take, true}
use Rattle.std.specs.Char.{encode_utf8}
use Rattle.std.specs.List.{flat_map}
use Rattle.std.specs.Str.{chars}
use Rattle.semver.specs.Identifiers.{parts_text}
use Rattle.url.specs.Parts.{serialize}
use Rattle.cargo_lock_parts.specs.Identity.{Identity, PackageData}
use Rattle.cargo_lock_parts.specs.Source.{Branch, DefaultBranch, Directory, Git, GitReference, Kind}
use Rattle.cargo_lock_parts.specs.Source.{LocalRegistry, Path, Registry, Rev, Source}
use Rattle.cargo_lock_parts.specs.Source.{SparseRegistry, Tag, is_git}
use Rattle.cargo_lock_parts.specs.SourceText.{pair_text, text_of}
use Rattle.cargo_lock_display.specs.Line.{checksum_text, named_text}
use Rattle.cargo_lock_merge.specs.declared.words.Value.{Value}
use Rattle.cargo_lock_merge.specs.declared.words.Value.TheVariants.{Absent, Checksum, Commit}
use Rattle.cargo_lock_merge.specs.declared.words.Value.TheVariants.{Replacement, Version}
use Rattle.cargo_lock_merge.specs.declared.words.Values.{Values}
use Rattle.printing.specs.Shown.{shown}
use Rattle.printing.specs.declared.form.Form.TheVariants.{Plain}

-- the first eight characters of a text
unfoldable pub start_of : List ℕ → List ℕ
start_of text = flat_map encode_utf8 (take 8 (chars text))

-- the beginning of a commit, after `#`, if there is one
abbrev pub mark_of : Option (List ℕ) → List ℕ
mark_of None = []
mark_of (Some commit) = codes "#" ++ shown Plain (start_of commit)

-- that of a git source
abbrev pub commit_mark : Option Source → List ℕ
commit_mark None = []
commit_mark (Some s) = if is_git s.kind then mark_of s.precise else []

-- the name, the version and the beginning of the commit
abbrev pub with_commit_text : PackageData → List ℕ
with_commit_text p = named_text p ++ commit_mark p.source

-- the same of an identity
abbrev pub identity_text : Identity → List ℕ
identity_text i = shown Plain i.name
    ++ (codes " " ++ (shown Plain (parts_text i.version) ++ commit_mark i.source))

-- the beginning of a commit, or `none`
abbrev pub commit_text : Option (List ℕ) → List ℕ
commit_text None = codes "none"
commit_text (Some commit) = shown Plain (start_of commit)

-- the reference of a git source, after `?`
abbrev pub reference_query : GitReference → List ℕ
reference_query DefaultBranch = []
reference_query (Tag value) = codes "?" ++ shown Plain (pair_text true (Tag value))
reference_query (Branch value) = codes "?" ++ shown Plain (pair_text true (Branch value))
reference_query (Rev value) = codes "?" ++ shown Plain (pair_text true (Rev value))

-- the same of a kind
abbrev pub query_of : Kind → List ℕ
query_of (Git reference) = reference_query reference
query_of Path = []
query_of Registry = []
query_of SparseRegistry = []
query_of LocalRegistry = []
query_of Directory = []

-- a git source without its commit
abbrev pub bare_text : Source → List ℕ
bare_text s = codes "git+" ++ (shown Plain (serialize s.url) ++ query_of s.kind)

-- a source without a commit
abbrev pub source_text : Source → List ℕ
source_text s = if is_git s.kind then bare_text s else shown Plain (text_of false s)

-- the source in round brackets, if there is one
abbrev pub bare_source_behind : Option Source → List ℕ
bare_source_behind None = []
bare_source_behind (Some s) = codes " (" ++ (source_text s ++ codes ")")

-- a replacement, or `none`
abbrev pub replacement_with_commit : Option Identity → List ℕ
replacement_with_commit None = codes "none"
replacement_with_commit (Some i) = identity_text i

-- what the base or a side has
abbrev pub side_value_text : Value → List ℕ
side_value_text (Version p) = shown Plain (parts_text p.now.version)
side_value_text (Commit s) = commit_text s.now.precise
side_value_text (Checksum p) = checksum_text p.now.checksum
side_value_text (Replacement p) = replacement_with_commit p.now.replace
side_value_text Absent = codes "none"

-- what ours and theirs have
abbrev pub both_text : Value → Value → List ℕ
both_text ours theirs = side_value_text ours
    ++ (codes " (ours), " ++ (side_value_text theirs ++ codes " (theirs)"))

-- what the base has, if that is shown, and what ours and theirs have
abbrev pub values_by : Option Value → Value → Value → List ℕ
values_by None ours theirs = both_text ours theirs
values_by (Some old) ours theirs = side_value_text old ++ (codes " -> " ++ both_text ours theirs)

-- the same of all three
abbrev pub values_text : Values → List ℕ
values_text v = values_by v.old v.ours v.theirs
