-- The source that a text reads as: a prefix, `+` and a URL, as Cargo writes it.
-- The rule is that of `SourceId::from_url` in `src/package/source.rs` of the Rust crate
-- `cargo-lock` 11.0.1, which adapts Cargo's `source_id.rs`; URLs and forms are those of the URL
-- Standard of 19 November 2026.
use Rattle.std.specs.Prelude.{ℕ, List, [], map, codes, bytes_eq, Option, Some, None, unwrap_or}
use Rattle.std.specs.Prelude.{option_map, ◌==◌, if◌then◌else◌}
use Rattle.std.specs.Str.Lossy.{utf8_lossy}
use Rattle.std.specs.List.{list_any, before_first, after_first, filter_map, last_or}
use Rattle.std.specs.Result.{result_ok}
use Rattle.form_urlencoded.specs.Form.{raw_pairs, decode}
use Rattle.url.specs.Parts.{Parts}
use Rattle.url.specs.Parser.{parse_url}
use Rattle.url.specs.Head.{without_tail}
use Rattle.cargo_lock_parts.specs.declared.package.source.parse.Protocol.{Protocol}
use Rattle.cargo_lock_parts.specs.declared.package.source.parse.Protocol.TheVariants as protocol
use Rattle.cargo_lock_parts.specs.Ascii.{plus_sign}
use Rattle.cargo_lock_parts.specs.Source.{Kind, GitReference, Source, DefaultBranch, Tag, Branch}
use Rattle.cargo_lock_parts.specs.Source.{Rev, Git, Path, Registry, SparseRegistry}

-- ---- the reference of a git source, which its query holds as a form

-- an encoded pair as text
abbrev pub pair_as_text : List ℕ × List ℕ → List ℕ × List ℕ
pair_as_text pair = (utf8_lossy (decode pair.0), utf8_lossy (decode pair.1))

-- a form's pairs as text
abbrev pub form_pairs : List ℕ → List (List ℕ × List ℕ)
form_pairs query = map pair_as_text (raw_pairs query)

-- the reference that a pair names by its key: `branch` and `ref` a branch, `rev`, `tag`
abbrev pub git_reference_named : List ℕ × List ℕ → Option GitReference
git_reference_named pair =
    if bytes_eq pair.0 (codes "branch") then Some (Branch pair.1)
    else (if bytes_eq pair.0 (codes "ref") then Some (Branch pair.1)
    else (if bytes_eq pair.0 (codes "rev") then Some (Rev pair.1)
    else (if bytes_eq pair.0 (codes "tag") then Some (Tag pair.1)
    else None)))

-- the reference of the last pair that names one, the pair after which none does, or the default
-- branch
unfoldable pub git_reference_in : List (List ℕ × List ℕ) → GitReference
git_reference_in pairs = unwrap_or
    (last_or None (filter_map git_reference_named pairs)) DefaultBranch

-- ---- the source

-- a git source: its reference is in the query, its precise text is the fragment, and its URL has
-- neither
abbrev pub git_source : Parts → Source
git_source url = record {
  url = without_tail url;
  kind = Git (git_reference_in (form_pairs (unwrap_or url.query [])));
  precise = url.fragment;
  name = None;
}

-- a source of another kind
abbrev pub plain_source : Kind → Option (List ℕ) → Parts → Source
plain_source kind precise url = record { url = url; kind = kind; precise = precise; name = None }

-- the URL that a text reads as, by the URL Standard
abbrev pub url_of : List ℕ → Option Parts
url_of text = result_ok (parse_url None text)

-- the protocol that a prefix names
abbrev pub protocol_of : List ℕ → Option Protocol
protocol_of word =
    if bytes_eq word (codes "git") then Some protocol.Git
    else (if bytes_eq word (codes "registry") then Some protocol.Registry
    else (if bytes_eq word (codes "sparse") then Some protocol.Sparse
    else (if bytes_eq word (codes "path") then Some protocol.Path
    else None)))

-- the source of a protocol and a URL
abbrev pub source_by : Protocol → Parts → Source
source_by protocol.Git url = git_source url
source_by protocol.Registry url = plain_source Registry (Some (codes "locked")) url
source_by protocol.Sparse url = plain_source SparseRegistry (Some (codes "locked")) url
source_by protocol.Path url = plain_source Path None url

-- the source of a prefix and a URL
abbrev pub source_by_word : Option Protocol → Option Parts → Option Source
source_by_word None url = None
source_by_word (Some protocol) url = option_map (source_by protocol) url

-- the source that a text reads as: its prefix ends at the first `+`
unfoldable pub source_of : List ℕ → Option Source
source_of text =
    if list_any (λ b. b == plus_sign) text
    then source_by_word (protocol_of (before_first (λ b. b == plus_sign) text))
    (url_of (after_first (λ b. b == plus_sign) text))
    else None
