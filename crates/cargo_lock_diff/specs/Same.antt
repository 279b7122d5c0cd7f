-- What the packages of a pair have in common, part by part.
use Rattle.std.specs.Prelude.{Bool}
use Rattle.std.specs.Option.{option_cmp}
use Rattle.std.specs.Ordering.{nat_cmp, on, eq_by_cmp}
use Rattle.std.specs.Cmp.Lexicographic.{slice_cmp}
use Rattle.cargo_lock_parts.specs.Identity.{PackageData}
use Rattle.cargo_lock_parts.specs.IdentityOrder.{version_cmp}
use Rattle.cargo_lock_parts.specs.SourceKey.{text_cmp}
use Rattle.cargo_lock_diff.specs.Likeness.{release_line}
use Rattle.cargo_lock_diff.specs.Place.{origin_cmp, place_cmp, placed_identity_cmp}

-- the versions are the same
abbrev pub have_one_version : PackageData → PackageData → Bool
have_one_version = eq_by_cmp (on (λ p. p.version) version_cmp)

-- the release lines are the same
abbrev pub have_one_line : PackageData → PackageData → Bool
have_one_line = eq_by_cmp (on (λ p. release_line p.version) (slice_cmp nat_cmp))

-- the sources are the same place, or both are absent
abbrev pub have_one_place : PackageData → PackageData → Bool
have_one_place = eq_by_cmp (on (λ p. p.source) (option_cmp place_cmp))

-- the sources are one origin, or both are absent
abbrev pub have_one_origin : PackageData → PackageData → Bool
have_one_origin = eq_by_cmp (on (λ p. p.source) (option_cmp origin_cmp))

-- the checksums are the same, or both are absent
abbrev pub have_one_checksum : PackageData → PackageData → Bool
have_one_checksum = eq_by_cmp (on (λ p. p.checksum) (option_cmp text_cmp))

-- the replacements are the same by name, version and place, or both are absent
abbrev pub have_one_replacement : PackageData → PackageData → Bool
have_one_replacement = eq_by_cmp (on (λ p. p.replace) (option_cmp placed_identity_cmp))
