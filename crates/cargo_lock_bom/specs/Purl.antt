-- Package URLs: `pkg:cargo/NAME@VERSION`, and after `?` where the package comes from, unless that
-- is crates.io.
-- The rule is that of the package-URL specification and of its type `cargo`.
use Rattle.std.specs.Prelude.{ℕ, Bool, ◌||◌, ◌==◌, List, [], ◌∷◌, ◌++◌, codes, Option, Some, None}
use Rattle.std.specs.Prelude.{if◌then◌else◌}
use Rattle.std.specs.Char.{is_ascii_alphanumeric}
use Rattle.std.specs.List.{flat_map, list_any}
use Rattle.percent_encoding.specs.Percent.{percent_encode_byte}
use Rattle.semver.specs.Identifiers.{parts_text}
use Rattle.url.specs.Parts.{serialize}
use Rattle.cargo_lock_parts.specs.Identity.{Identity}
use Rattle.cargo_lock_parts.specs.Source.{Kind, GitReference, Source, DefaultBranch, Tag, Branch}
use Rattle.cargo_lock_parts.specs.Source.{Rev, Git, Path, Registry, SparseRegistry, LocalRegistry}
use Rattle.cargo_lock_parts.specs.Source.{Directory}
use Rattle.cargo_lock_order.specs.Canonical.{is_canonically_crates_io}
use Rattle.cargo_lock_bom.specs.UserInfo.{without_user_info}

-- ---- escapes

-- the marks that are not escaped in a name and a version
abbrev pub plain_segment_marks : List ℕ
plain_segment_marks = codes "-._~:"

-- the marks that are not escaped in a URL
abbrev pub plain_url_marks : List ℕ
plain_url_marks = codes "-._~:/"

-- the byte is not escaped: it is an ASCII letter, a digit or one of the marks
abbrev pub is_unescaped : List ℕ → ℕ → Bool
is_unescaped marks b = is_ascii_alphanumeric b || list_any (λ c. b == c) marks

-- a text with every other byte as `%` and two upper-case hex digits
abbrev pub escaped_but : List ℕ → List ℕ → List ℕ
escaped_but marks text =
    flat_map (λ b. if is_unescaped marks b then b ∷ [] else percent_encode_byte b) text

-- a name or a version in a package URL
unfoldable pub escaped_text : List ℕ → List ℕ
escaped_text text = escaped_but plain_segment_marks text

-- a URL in a package URL
unfoldable pub escaped_url : List ℕ → List ℕ
escaped_url text = escaped_but plain_url_marks text

-- ---- where a package comes from

-- the commit, or else the tag, the branch or the revision
abbrev pub commit_or_reference : GitReference → Option (List ℕ) → Option (List ℕ)
commit_or_reference reference (Some commit) = Some commit
commit_or_reference DefaultBranch None = None
commit_or_reference (Tag name) None = Some name
commit_or_reference (Branch name) None = Some name
commit_or_reference (Rev name) None = Some name

-- the URL of a repository, with the commit, tag, branch or revision that is checked out
abbrev pub repository_text : List ℕ → Option (List ℕ) → List ℕ
repository_text url None = codes "git+" ++ url
repository_text url (Some revision) = codes "git+" ++ (url ++ (codes "@" ++ revision))

-- the qualifiers that say where a package comes from, by the kind, the URL text and the precise
-- text of its source
abbrev pub qualifiers_by : Kind → List ℕ → Option (List ℕ) → List ℕ
qualifiers_by (Git reference) url precise =
    codes "?vcs_url=" ++ escaped_url (repository_text url (commit_or_reference reference precise))
qualifiers_by Path url precise = codes "?download_url=" ++ escaped_url url
qualifiers_by Registry url precise = codes "?repository_url=" ++ escaped_url url
qualifiers_by SparseRegistry url precise = codes "?repository_url=" ++ escaped_url url
qualifiers_by LocalRegistry url precise = codes "?repository_url=" ++ escaped_url url
qualifiers_by Directory url precise = codes "?repository_url=" ++ escaped_url url

-- the qualifiers that say where a package comes from: none for crates.io, and otherwise the URL
-- without user name and password
unfoldable pub qualifiers : Source → List ℕ
qualifiers s =
    if is_canonically_crates_io s then []
    else qualifiers_by s.kind (serialize (without_user_info s.url)) s.precise

-- ---- the URL

-- the package URL of a name, a version and a source; without a source there is none
abbrev pub purl_from : List ℕ → List ℕ → Option Source → Option (List ℕ)
purl_from name version None = None
purl_from name version (Some source) =
    Some (codes "pkg:cargo/" ++ (escaped_text name
    ++ (codes "@" ++ (escaped_text version ++ qualifiers source))))

-- the package URL of a package
abbrev pub purl_of : Identity → Option (List ℕ)
purl_of d = purl_from d.name (parts_text d.version) d.source
