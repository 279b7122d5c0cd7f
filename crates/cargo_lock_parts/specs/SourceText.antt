-- The text of a source: its prefix, `+` and its URL, and for a git source the reference and the
-- commit too. Cargo escapes the reference's value from format V4 on.
-- The rule is that of `SourceIdAsUrl` in `src/package/source.rs` of the Rust crate `cargo-lock`
-- 11.0.1, and the escapes are those of the pull request 12852 of rust-lang/cargo.
use Rattle.std.specs.Prelude.{ℕ, Bool, List, [], ◌++◌, codes, Option, Some, None, if◌then◌else◌}
use Rattle.form_urlencoded.specs.Form.{byte_serialize}
use Rattle.url.specs.Parts.{serialize}
use Rattle.cargo_lock_parts.specs.Source.{Kind, GitReference, Source, MarkedSource}
use Rattle.cargo_lock_parts.specs.Source.{MarkedGitReference, DefaultBranch, Tag, Branch, Rev, Git}
use Rattle.cargo_lock_parts.specs.Source.{Path, Registry, SparseRegistry, LocalRegistry, Directory}

-- a reference's value, unchanged or escaped as in a form
abbrev pub value_text : Bool → List ℕ → List ℕ
value_text escaped value = if escaped then byte_serialize value else value

-- the reference as a pair
abbrev pub pair_text : Bool → GitReference → List ℕ
pair_text escaped DefaultBranch = []
pair_text escaped (Tag value) = codes "tag=" ++ value_text escaped value
pair_text escaped (Branch value) = codes "branch=" ++ value_text escaped value
pair_text escaped (Rev value) = codes "rev=" ++ value_text escaped value

-- the query of a git source
abbrev pub query_text : Bool → GitReference → List ℕ
query_text escaped DefaultBranch = []
query_text escaped (Tag value) = codes "?" ++ pair_text escaped (Tag value)
query_text escaped (Branch value) = codes "?" ++ pair_text escaped (Branch value)
query_text escaped (Rev value) = codes "?" ++ pair_text escaped (Rev value)

-- the fragment of a git source
abbrev pub fragment_text : Option (List ℕ) → List ℕ
fragment_text None = []
fragment_text (Some precise) = codes "#" ++ precise

-- the text of a source with this kind, URL text and precise text
abbrev pub text_by_kind : Bool → Kind → List ℕ → Option (List ℕ) → List ℕ
text_by_kind escaped (Git reference) url precise =
    codes "git+" ++ url ++ query_text escaped reference ++ fragment_text precise
text_by_kind escaped Path url precise = codes "path+" ++ url
text_by_kind escaped Registry url precise = codes "registry+" ++ url
text_by_kind escaped SparseRegistry url precise = codes "sparse+" ++ url
text_by_kind escaped LocalRegistry url precise = codes "local-registry+" ++ url
text_by_kind escaped Directory url precise = codes "directory+" ++ url

-- the text of a source, escaped or plain
unfoldable pub text_of : Bool → Source → List ℕ
text_of escaped s = text_by_kind escaped s.kind (serialize s.url) s.precise

-- the text of a source as it is marked
abbrev pub marked_text : MarkedSource → List ℕ
marked_text m = text_of m.escaped m.source

-- the text of a reference as it is marked
abbrev pub marked_pair_text : MarkedGitReference → List ℕ
marked_pair_text m = pair_text m.escaped m.reference
