-- How alike two packages are: what they have in common of name, version, source, checksum and
-- replacement.
-- A release line is what the Cargo Book takes for compatible by default (Specifying Dependencies).
use Rattle.std.specs.Prelude.{Bool, List, [], ◌∷◌, ℕ, ◌==◌, if◌then◌else◌}
use Rattle.std.specs.Option.{option_cmp}
use Rattle.std.specs.declared.cmp.Ordering.{Ordering}
use Rattle.std.specs.Ordering.{nat_cmp, on, then_cmp, eq_by_cmp}
use Rattle.std.specs.Cmp.Lexicographic.{slice_cmp}
use Rattle.semver.specs.Parse.{Parts}
use Rattle.cargo_lock_parts.specs.Identity.{PackageData, identity_of}
use Rattle.cargo_lock_parts.specs.IdentityOrder.{version_cmp}
use Rattle.cargo_lock_parts.specs.SourceKey.{text_cmp}
use Rattle.cargo_lock_diff.specs.declared.likeness.Likeness.{Likeness}
use Rattle.cargo_lock_diff.specs.declared.likeness.Likeness.TheVariants.{Name, Origin, Version}
use Rattle.cargo_lock_diff.specs.declared.likeness.Likeness.TheVariants.{Line, Place, Archive}
use Rattle.cargo_lock_diff.specs.declared.likeness.Likeness.TheVariants.{Whole}
use Rattle.cargo_lock_diff.specs.Place.{origin_cmp, placed_identity_cmp}

-- the release line of a version: the first of its three numbers that is not zero and those before
-- it, and zero for those after it
abbrev pub release_line : Parts → List ℕ
release_line v =
    if v.0 == 0 then (if v.1 == 0 then 0 ∷ 0 ∷ v.2 ∷ [] else 0 ∷ v.1 ∷ 0 ∷ [])
    else v.0 ∷ 0 ∷ 0 ∷ []

-- the order by what a likeness compares; an absent source, checksum or replacement is before a
-- present one
abbrev pub likeness_cmp : Likeness → PackageData → PackageData → Ordering
likeness_cmp Name = on (λ p. p.name) text_cmp
likeness_cmp Origin = then_cmp (on (λ p. p.name) text_cmp)
    (on (λ p. p.source) (option_cmp origin_cmp))
likeness_cmp Version = then_cmp (on (λ p. p.name) text_cmp) (on (λ p. p.version) version_cmp)
likeness_cmp Line = then_cmp (then_cmp
    (on (λ p. p.name) text_cmp)
    (on (λ p. p.source) (option_cmp origin_cmp)))
    (on (λ p. release_line p.version) (slice_cmp nat_cmp))
likeness_cmp Place = on identity_of placed_identity_cmp
likeness_cmp Archive = then_cmp (then_cmp
    (on (λ p. p.name) text_cmp)
    (on (λ p. p.version) version_cmp))
    (on (λ p. p.checksum) (option_cmp text_cmp))
likeness_cmp Whole = then_cmp (then_cmp
    (on identity_of placed_identity_cmp)
    (on (λ p. p.checksum) (option_cmp text_cmp)))
    (on (λ p. p.replace) (option_cmp placed_identity_cmp))

-- two packages are this much alike: they tie in that order
abbrev pub is_alike : Likeness → PackageData → PackageData → Bool
is_alike likeness = eq_by_cmp (likeness_cmp likeness)
