-- The URL of a source in the form in which Cargo compares packages.
-- The rule is that of Cargo's `src/cargo/util/canonical_url.rs`, measured on the lockfiles in
-- `tests/cargo`, which Cargo 1.95.0 wrote.
use Rattle.std.specs.Prelude.{◌++◌, ◌-◌, ◌||◌, ℕ, nat_lt, Bool, false, if◌then◌else◌, List, length, map}
use Rattle.std.specs.Prelude.{take, codes, bytes_eq, Option, None, Some, option_map, eqb, Ok, Err}
use Rattle.std.specs.Char.{to_ascii_lowercase}
use Rattle.std.specs.List.{ends_with}
use Rattle.url.specs.Host.{host_text}
use Rattle.url.specs.Parser.{Parsed, parse_url}
use Rattle.url.specs.Parts.{Parts, nonempty_host, text_between}
use Rattle.url.specs.declared.slicing.Position.TheVariants.{AfterScheme, BeforePath, AfterPath, AfterFragment}
use Rattle.cargo_lock_parts.specs.Source.{Kind, Source, Registry, SparseRegistry}
use Rattle.cargo_lock_parts.specs.SourceShown.{is_default_registry}

-- a text without this end, if it has it
abbrev pub without_end : List ℕ → List ℕ → List ℕ
without_end end text =
    if ends_with eqb text end then take (length text - length end) text else text

-- a path without one `/` at its end; the first one of a path stays
abbrev pub without_slash : List ℕ → List ℕ
without_slash path = if nat_lt 1 (length path) then without_end (codes "/") path else path

-- the host is that of GitHub
abbrev pub is_github : Option (List ℕ) → Bool
is_github None = false
is_github (Some host) = bytes_eq host (codes "github.com")

-- the URL is at GitHub
abbrev pub is_at_github : Parts → Bool
is_at_github url = is_github (option_map host_text (nonempty_host url))

-- the URL that was read, or else this one
abbrev pub read_or : Parts → Parsed Parts → Parts
read_or url (Ok read) = read
read_or url (Err e) = url

-- the URL as it is read again with the scheme `https`, as Cargo does at GitHub: so a port 443 goes,
-- and a backslash is a `/`
abbrev pub with_https : Parts → Parts
with_https url =
    read_or url (parse_url None (codes "https" ++ text_between url AfterScheme AfterFragment))

-- the path of the second URL in lower case, without a `/` at its end if the first URL has one there
abbrev pub path_at_github : Parts → Parts → List ℕ
path_at_github url read = map to_ascii_lowercase
    (if ends_with eqb url.path (codes "/") then without_slash read.path else read.path)

-- the text of a URL with this path, less `.git` at its end
abbrev pub text_with_path : Parts → List ℕ → List ℕ
text_with_path url path = url.scheme ++ (text_between url AfterScheme BeforePath
    ++ (without_end (codes ".git") path ++ text_between url AfterPath AfterFragment))

-- the text of a URL as Cargo compares it: the path is without a `/` and then without `.git` at its
-- end; at GitHub the URL is read again with `https`, and its path is in lower case
abbrev pub canonical : Parts → List ℕ
canonical url = if is_at_github url
    then text_with_path (with_https url) (path_at_github url (with_https url))
    else text_with_path url (without_slash url.path)

-- the URL of crates.io among the sources of a kind: its index in git, or its sparse one
abbrev pub index_of_crates_io : Kind → Option (List ℕ)
index_of_crates_io Registry = Some (codes "https://github.com/rust-lang/crates.io-index")
index_of_crates_io SparseRegistry = Some (codes "https://index.crates.io/")
index_of_crates_io other = None

-- the text is this URL, if there is one
abbrev pub is_text_of : Option (List ℕ) → List ℕ → Bool
is_text_of None text = false
is_text_of (Some url) text = bytes_eq text url

-- Cargo takes the source for crates.io: it is that as Cargo writes it, or its URL, as Cargo compares
-- it, is that of an index
abbrev pub is_canonically_crates_io : Source → Bool
is_canonically_crates_io s =
    is_default_registry s || is_text_of (index_of_crates_io s.kind) (canonical s.url)
