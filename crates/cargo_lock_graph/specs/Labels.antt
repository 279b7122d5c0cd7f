-- The labels of the entries of a drawing.
-- The rule is that of `Presenter::print_node` in `src/dependency/tree.rs` of the Rust crate
-- `cargo-lock` 11.0.1.
use Rattle.std.specs.Prelude.{ℕ, Bool, List, [], ◌++◌, Option, Some, None, codes, cond, get_or, map}
use Rattle.std.specs.Prelude.{false}
use Rattle.semver.specs.Identifiers.{marked, parts_text}
use Rattle.semver.specs.Parse.{Parts}
use Rattle.cargo_lock_parts.specs.Ascii.{hyphen, plus_sign}
use Rattle.cargo_lock_parts.specs.Checksum.{digest_text}
use Rattle.cargo_lock_parts.specs.Identity.{PackageData}
use Rattle.cargo_lock_parts.specs.Source.{Source}
use Rattle.cargo_lock_parts.specs.SourceText.{text_of}

-- the pre-release and the build metadata of a version, each after its mark, `-` or `+`
abbrev pub tags_text : Parts → List ℕ
tags_text v = marked hyphen v.3 ++ marked plus_sign v.4

-- what distinguishes a package exactly: its checksum, or else the plain text of its source, or else
-- `inexact`
abbrev pub exact_text : Option (List ℕ) → Option Source → List ℕ
exact_text (Some digest) source = codes "checksum:" ++ digest_text digest
exact_text None (Some source) = text_of false source
exact_text None None = codes "inexact"

-- the name, a space and the version, and in an exact label a space and the exact text
abbrev pub label_of : Bool → PackageData → List ℕ
label_of exact p =
    (p.name ++ (codes " " ++ parts_text p.version))
    ++ cond exact (codes " " ++ exact_text p.checksum p.source) []

-- the label of a node
abbrev pub label_at : Bool → List PackageData → ℕ → List ℕ
label_at exact packages node = get_or (map (label_of exact) packages) node []
