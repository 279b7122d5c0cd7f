-- The definitions of rank, registry and file URL, computed at texts.
use Rattle.std.proofs.Common.{◌≡◌, ℕ, true, List, Option, Some, None, option_map, codes, refl}
use Rattle.std.specs.Prelude.{option_and_then}
use Rattle.std.specs.Str.Lossy.{utf8_lossy, utf8_valid_len}
use Rattle.url.proofs.OnLiterals.{url_on_literals}
use Rattle.percent_encoding.specs.Percent.{percent_encode_byte}
use Rattle.cargo_lock_parts.specs.Source.{Path}
use Rattle.cargo_lock_parts.specs.SourceReading.{source_of, git_reference_in}
use Rattle.cargo_lock_parts.specs.SourceText.{text_of}
use Rattle.cargo_lock_parts.specs.SourceShown.{default_registry, is_default_registry, index_text, registry_name_text}
use Rattle.cargo_lock_parts.specs.FileUrl.{file_url_text, source_at}
use Rattle.cargo_lock_parts.specs.Rank.{rank_of}

-- the rank of the sources that two texts read as
abbrev rank : List ℕ → List ℕ → Option ℕ
rank x y = option_and_then (λ s. option_and_then (rank_of s) (source_of y)) (source_of x)

abbrev at_commit : List ℕ
at_commit = codes "git+https://e.org/x?rev=aaaa#aaaa"

abbrev at_revision : List ℕ
at_revision = codes "git+https://e.org/x?rev=aaaa"

abbrev on_branch : List ℕ
on_branch = codes "git+https://e.org/x?branch=m"

abbrev at_other_commit : List ℕ
at_other_commit = codes "git+https://e.org/x?branch=m#f00"

abbrev in_registry : List ℕ
in_registry = codes "registry+https://e.org/x"

pub ranks : (rank at_commit at_commit ≡ Some 1) × (rank at_commit at_revision ≡ Some 2)
    × (rank on_branch at_other_commit ≡ Some 3) × (rank at_commit on_branch ≡ Some 4)
    × (rank at_commit at_other_commit ≡ None) × (rank on_branch in_registry ≡ None)
unfolding url_on_literals percent_encode_byte utf8_lossy utf8_valid_len source_of git_reference_in
ranks = (refl, refl, refl, refl, refl, refl)

pub paths : (file_url_text (codes "/a b/./c/") ≡ Some (codes "file:///a%20b/c"))
    × (file_url_text (codes "/") ≡ Some (codes "file:///"))
    × (file_url_text (codes "a") ≡ None)
    × (file_url_text (codes "//x//.//y#?%~") ≡ Some (codes "file:///x/y%23%3F%25~"))
unfolding url_on_literals percent_encode_byte
paths = (refl, refl, refl, refl)

pub parents : option_map (text_of true) (source_at Path (codes "/a/../b")) ≡ Some (codes "path+file:///b")
unfolding url_on_literals percent_encode_byte source_at text_of
parents = refl

-- the registry of crates.io equals what a lockfile says of it, and is shown by its name
pub registries : (option_map is_default_registry default_registry ≡ Some true)
    × (option_map is_default_registry (source_of (codes "sparse+https://index.crates.io/")) ≡ Some true)
    × (option_and_then (λ s. option_and_then (rank_of s) (source_of (codes "registry+https://github.com/rust-lang/crates.io-index"))) default_registry ≡ Some 1)
    × (option_map index_text default_registry ≡ Some (codes "crates.io index"))
    × (option_map index_text (source_of in_registry) ≡ Some (codes "`https://e.org/x` index"))
    × (option_map registry_name_text (source_of in_registry) ≡ Some (codes "https://e.org/x"))
unfolding url_on_literals percent_encode_byte source_of git_reference_in default_registry
registries = (refl, refl, refl, refl, refl, refl)
