-- The URL of a folder on this machine, by a rule of this crate: the path is cut at `/`, parts that
-- are empty or `.` are dropped, and the others are escaped. The text after `file://` is then read
-- as any URL. There a part `..` removes the part before it, if there is one, unless that part is
-- the first and is a letter and `:`: `/a/../b` is `/b`, and `/C:/../b` is `/C:/b`.
use Rattle.std.specs.Prelude.{◌≡◌, ℕ, Bool, true, false, not, ◌&&◌, ◌||◌, ◌==◌, List, [], ◌∷◌, ◌++◌}
use Rattle.std.specs.Prelude.{length, filter, codes, bytes_eq, Option, Some, None, is_some}
use Rattle.std.specs.Prelude.{option_map, option_and_then, if◌then◌else◌, Result}
use Rattle.std.specs.Char.{is_ascii_alphanumeric}
use Rattle.std.specs.List.{flat_map, list_any, slice_split}
use Rattle.percent_encoding.specs.Percent.{percent_encode_byte}
use Rattle.cargo_lock_parts.specs.declared.error.Error.{Error}
use Rattle.cargo_lock_parts.specs.Ascii.{slash}
use Rattle.cargo_lock_parts.specs.Error.{IsLong, ReadsUrls, RefusesWith}
use Rattle.cargo_lock_parts.specs.Source.{Kind, Source}
use Rattle.cargo_lock_parts.specs.SourceReading.{plain_source, url_of}

-- ---- the parts of a path

-- the byte is `/`
abbrev pub is_slash : ℕ → Bool
is_slash b = b == slash

-- the path is absolute
abbrev pub begins_with_slash : List ℕ → Bool
begins_with_slash [] = false
begins_with_slash (b ∷ bytes) = is_slash b

-- the part is kept: it is neither empty nor `.`
abbrev pub is_kept_part : List ℕ → Bool
is_kept_part part = not (length part == 0) && not (bytes_eq part (codes "."))

-- the parts of a path that are kept
abbrev pub path_parts : List ℕ → List (List ℕ)
path_parts path = filter is_kept_part (slice_split is_slash path)

-- ---- their text in a URL

-- the marks that are not escaped in a part
abbrev pub plain_marks : List ℕ
plain_marks = codes "-._~!$&'()*+,;=:@"

-- the byte is not escaped in a part
abbrev pub is_plain_byte : ℕ → Bool
is_plain_byte b = is_ascii_alphanumeric b || list_any (λ c. b == c) plain_marks

-- a part with every other byte as `%` and two upper-case hex digits
abbrev pub escaped_part : List ℕ → List ℕ
escaped_part part = flat_map (λ b. if is_plain_byte b then b ∷ [] else percent_encode_byte b) part

-- a part after its `/`
abbrev pub part_text : List ℕ → List ℕ
part_text part = codes "/" ++ escaped_part part

-- a part as it is added: nothing of one that is dropped
abbrev pub kept_text : List ℕ → List ℕ
kept_text part = if is_kept_part part then part_text part else []

-- the parts of a path that are kept, one after the other
abbrev pub path_parts_text : List ℕ → List ℕ
path_parts_text path = flat_map part_text (path_parts path)

-- `file://` and the parts, or one `/` where there is none
abbrev pub file_url_of : List (List ℕ) → List ℕ
file_url_of [] = codes "file:///"
file_url_of (part ∷ parts) = codes "file://" ++ flat_map part_text (part ∷ parts)

-- the text that is read as the URL of a path; there is none unless the path begins with `/`
abbrev pub file_url_text : List ℕ → Option (List ℕ)
file_url_text path =
    if begins_with_slash path then Some (file_url_of (path_parts path)) else None

-- ---- the source

-- the source of this kind at a path
unfoldable pub source_at : Kind → List ℕ → Option Source
source_at kind path =
    option_map (plain_source kind None) (option_and_then url_of (file_url_text path))

-- the text of the error for a path that does not begin with `/`
abbrev pub invalid_path : List ℕ → List ℕ
invalid_path path = codes "invalid path url `" ++ path ++ codes "`"

-- The result is the source of this kind at the path. `Parse` comes if there is none, and then names
-- a path that does not begin with `/`. It also comes for a URL of 4 GB or more, which only a long
-- path has.
abbrev pub ReadsFolder : Result Source Error → Kind → List ℕ → Type 0
ReadsFolder result kind path =
    ReadsUrls (IsLong path) (λ source. source) result (source_at kind path)
    × (begins_with_slash path ≡ false → RefusesWith result (invalid_path path))

-- each absolute path has a source
abbrev pub RootedPathsHaveSources : Type 0
RootedPathsHaveSources = (kind : Kind) (path : List ℕ) → begins_with_slash path ≡ true
    → is_some (source_at kind path) ≡ true
