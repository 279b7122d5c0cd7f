-- Names of packages that Cargo does not accept.
-- The rule is that of Cargo 1.95.0, which goes by Unicode's XID, and of crates.io, which takes ASCII
-- alone.
use Rattle.std.specs.Prelude.{◌≡◌, ◌==◌, ◌&&◌, ◌||◌, ℕ, Bool, not, false, List, [], ◌∷◌, Option, None, Some}
use Rattle.std.specs.Char.{is_ascii}
use Rattle.std.specs.List.{list_all}
use Rattle.std.specs.Str.{chars}
use Rattle.unicode_ident.specs.Ident.{is_xid_continue, is_xid_start}
use Rattle.cargo_lock_parts.specs.Ascii.{hyphen, underscore}
use Rattle.cargo_lock_parts.specs.Identity.{PackageData}
use Rattle.cargo_lock_parts.specs.Source.{Source}
use Rattle.cargo_lock_parts.specs.SourceShown.{is_default_registry}
use Rattle.cargo_lock_graph.specs.Targets.{HoldsOf}

-- a name may begin with the character: `_`, or one with which an identifier begins (XID_Start)
abbrev pub may_begin : ℕ → Bool
may_begin c = c == underscore || is_xid_start c

-- the first of these characters may begin a name
abbrev pub begins_name : List ℕ → Bool
begins_name [] = false
begins_name (c ∷ cs) = may_begin c

-- the character may be in a name: `-`, or one that is in identifiers (XID_Continue)
abbrev pub may_be_in_name : ℕ → Bool
may_be_in_name c = c == hyphen || is_xid_continue c

-- these are the characters of a name that Cargo accepts
abbrev pub is_cargo_name : List ℕ → Bool
is_cargo_name characters = begins_name characters && list_all may_be_in_name characters

-- the source is crates.io
abbrev pub is_of_crates_io : Option Source → Bool
is_of_crates_io None = false
is_of_crates_io (Some source) = is_default_registry source

-- Cargo accepts the name of the package, and so does crates.io, if the package is from there
abbrev pub is_well_named : PackageData → Bool
is_well_named p =
    is_cargo_name (chars p.name) && (not (is_of_crates_io p.source) || list_all is_ascii p.name)

-- the name of the package at the place is not accepted
abbrev pub IsBadlyNamed : List PackageData → ℕ → Type 0
IsBadlyNamed packages place = HoldsOf (λ p. is_well_named p ≡ false) packages place
