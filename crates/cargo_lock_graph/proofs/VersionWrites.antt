-- The text of a version, written in parts.
use Rattle.std.proofs.Common.{◌≡◌, ℕ, List, ◌∷◌, ◌++◌, codes, decimal, sym, ap, ◌∙◌, append_assoc}
use Rattle.semver.specs.Identifiers.{parts_text}
use Rattle.semver.specs.Parse.{Parts}
use Rattle.cargo_lock_graph.specs.Labels.{tags_text}
use Rattle.cargo_lock_graph.specs.VersionText.{numbers_text}

pub version_is : (v : Parts) → codes " " ++ parts_text v ≡ numbers_text v ++ tags_text v
version_is v =
    let patch : List ℕ = 46 ∷ decimal v.2 in
    let minor : List ℕ = 46 ∷ (decimal v.1 ++ patch) in
    let tags : List ℕ = tags_text v in
    sym (ap (λ (t : List ℕ). 32 ∷ t) (append_assoc (decimal v.0) minor tags ∙ ap (λ (t : List ℕ). decimal v.0 ++ (46 ∷ t)) (append_assoc (decimal v.1) patch tags)))
