use Rattle.std.proofs.Common.{◌≡◌, ◌∙◌, ◌++◌, List, ℕ, codes, ap, sym, option_map}
use Rattle.std.proofs.lemmas.List.{append_assoc}
use Rattle.semver.specs.Identifiers.{version_text}
use Rattle.cargo_lock_parts.specs.Identity.{PackageData, source_part}
use Rattle.cargo_lock_bom.specs.References.{repeated_text}
use Rattle.cargo_lock_bom.specs.UserInfo.{public_source}
use Rattle.cargo_lock_bom.proofs.reference.repeated_text.Goals as goal

regrouped : (a b c d : List ℕ) → a ++ (b ++ (c ++ d)) ≡ ((a ++ b) ++ c) ++ d
regrouped a b c d = sym (append_assoc (a ++ b) c d ∙ append_assoc a b (c ++ d))

pub returns-clause-ok : goal.returns-clause-ok
returns-clause-ok c =
    let name : List ℕ = c.«package».inside.name in
    let version : List ℕ = version_text c.«package».inside.version in
    let part : List ℕ = source_part (option_map public_source c.«package».inside.source) in
    c.in_ok-text.ensures.ok
    ∙ ap (λ t. codes "two packages are " ++ (name ++ (codes " " ++ (version ++ t)))) c.in_ok-place.ensures
    ∙ ap (λ t. codes "two packages are " ++ t) (regrouped name (codes " ") version part)
    ∙ ap (λ (p : PackageData). repeated_text p) c.«package».view_is
