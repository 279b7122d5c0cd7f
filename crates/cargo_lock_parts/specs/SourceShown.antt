-- Whether a registry is that of crates.io, and how a registry is shown to people.
-- The rules are those of `is_default_registry`, `display_index` and `display_registry_name` in
-- `src/package/source.rs` of the Rust crate `cargo-lock` 11.0.1.
use Rattle.std.specs.Prelude.{ℕ, Bool, false, List, ◌++◌, codes, bytes_eq, Option, None, unwrap_or}
use Rattle.std.specs.Prelude.{option_map, if◌then◌else◌}
use Rattle.url.specs.Parts.{serialize}
use Rattle.cargo_lock_parts.specs.Source.{Kind, Source, Git, Path, Registry, SparseRegistry}
use Rattle.cargo_lock_parts.specs.Source.{LocalRegistry, Directory}
use Rattle.cargo_lock_parts.specs.SourceReading.{plain_source, url_of}

-- the URL text of the index of crates.io, as a git repository
abbrev pub crates_io_index : List ℕ
crates_io_index = codes "https://github.com/rust-lang/crates.io-index"

-- the URL text of the sparse index of crates.io
abbrev pub crates_io_sparse_url : List ℕ
crates_io_sparse_url = codes "https://index.crates.io/"

-- a source of this kind with this URL text is the registry of crates.io
abbrev pub is_crates_io : Kind → List ℕ → Bool
is_crates_io (Git reference) url = false
is_crates_io Path url = false
is_crates_io Registry url = bytes_eq url crates_io_index
is_crates_io SparseRegistry url = bytes_eq url crates_io_sparse_url
is_crates_io LocalRegistry url = false
is_crates_io Directory url = false

-- the source is the registry of crates.io
abbrev pub is_default_registry : Source → Bool
is_default_registry s = is_crates_io s.kind (serialize s.url)

-- the registry of crates.io, as a call makes it
unfoldable pub default_registry : Option Source
default_registry = option_map (plain_source Registry None) (url_of crates_io_index)

-- the index of a source, as it is shown to people
abbrev pub index_text : Source → List ℕ
index_text s =
    if is_default_registry s then codes "crates.io index"
    else codes "`" ++ serialize s.url ++ codes "` index"

-- the name of a registry: that of crates.io, or the source's name, or else its URL
abbrev pub registry_name_text : Source → List ℕ
registry_name_text s =
    if is_default_registry s then codes "crates.io"
    else unwrap_or s.name (serialize s.url)
