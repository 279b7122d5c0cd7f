-- Which packages a specification fits.
-- The rule is that of `src/bin/cargo-lock/main.rs` of the Rust crate `cargo-lock` 11.0.1.
use Rattle.std.specs.Prelude.{◌≡◌, ℕ, ◌==◌, ◌||◌, ◌&&◌, Bool, true, false, if◌then◌else◌, List}
use Rattle.std.specs.Prelude.{Option, Some, None, bytes_eq, length, nat_lt, option_map}
use Rattle.std.specs.List.{after_first, before_first, position_or_len}
use Rattle.semver.specs.Identifiers.{parts_of}
use Rattle.semver.specs.Parse.{Parts}
use Rattle.cargo_lock_parts.specs.Checksum.{digest_text}
use Rattle.cargo_lock_parts.specs.Identity.{PackageData}
use Rattle.cargo_lock_parts.specs.Source.{Source}
use Rattle.cargo_lock_graph.specs.Targets.{HoldsOf}
use Rattle.cargo_lock_references.specs.Reference.{version_of}
use Rattle.cargo_lock_references.specs.ResolutionSearch.{same_parts}
use Rattle.cargo_lock_query.specs.declared.spec.Spec.{Spec}

-- a specification: a name, a second part, whether both have to fit or one of them is enough, and
-- the version that the second part is, if it is one
pub record SpecData : Type 0 where
  pub name : List ℕ
  pub part : List ℕ
  pub both : Bool
  pub version : Option Parts

-- the values of a specification that was read
abbrev pub spec_data : Spec → SpecData
spec_data spec = record {
  name = spec.name.now;
  part = spec.part.now;
  both = spec.both;
  version = option_map parts_of spec.version;
}

-- `@`, which ends the name
abbrev pub is_at_sign : ℕ → Bool
is_at_sign c = c == 64

-- the text has an `@`
abbrev pub has_at_sign : List ℕ → Bool
has_at_sign text = nat_lt (position_or_len is_at_sign text) (length text)

-- the text after the first `@`, or all of it without one
abbrev pub second_part : List ℕ → List ℕ
second_part text = if has_at_sign text then after_first is_at_sign text else text

-- the specification of a text: the name is before the first `@`
abbrev pub spec_in : List ℕ → SpecData
spec_in text = record {
  name = before_first is_at_sign text;
  part = second_part text;
  both = has_at_sign text;
  version = version_of (second_part text);
}

-- there is a text, and it is this one
abbrev pub is_text : Option (List ℕ) → List ℕ → Bool
is_text None text = false
is_text (Some other) text = bytes_eq other text

-- the source has this precise text
abbrev pub has_this_precise : Option Source → List ℕ → Bool
has_this_precise None text = false
has_this_precise (Some source) text = is_text source.precise text

-- the text of the checksum in lower case is this one
abbrev pub has_this_checksum : Option (List ℕ) → List ℕ → Bool
has_this_checksum None text = false
has_this_checksum (Some digest) text = bytes_eq (digest_text digest) text

-- the second part fits a package: it is the package's version or, if it is no version, the precise
-- text of its source or its checksum
abbrev pub part_fits : Option Parts → List ℕ → PackageData → Bool
part_fits (Some version) part p = same_parts p.version version
part_fits None part p = has_this_precise p.source part || has_this_checksum p.checksum part

-- the specification fits a package
abbrev pub spec_fits : SpecData → PackageData → Bool
spec_fits s p = if s.both then bytes_eq p.name s.name && part_fits s.version s.part p
    else bytes_eq p.name s.name || part_fits s.version s.part p

-- the specification of this text fits the package at the place
abbrev pub SpecFits : List ℕ → List PackageData → ℕ → Type 0
SpecFits text packages place = HoldsOf (λ p. spec_fits (spec_in text) p ≡ true) packages place
