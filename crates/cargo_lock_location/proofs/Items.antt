-- What is found, each with its line, as items of a document.
use Rattle.std.proofs.Common.{◌≡◌, ◌∙◌, ℕ, List, Option, ap, map, sym}
use Rattle.std.proofs.lemmas.Simd.{map-map}
use Rattle.json.specs.Json.{Json}
use Rattle.cargo_lock_location.specs.declared.located.Located.{Located}

-- the items of what is located are those of what is found, each by its line
pub items-located : {A : Type 0} (at : Option ℕ → A → Json) (line : A → Option ℕ) (located : List (Located A)) (all : List A)
    → map {B = A × Option ℕ} (λ l. (l.found.now, l.line)) located ≡ map (λ x. (x, line x)) all
    → map (λ l. at l.line l.found.now) located ≡ map (λ x. at (line x) x) all
items-located {A} at line located all same =
    sym (map-map (λ (p : A × Option ℕ). at p.1 p.0) (λ (l : Located A). (l.found.now, l.line)) located)
    ∙ ap (map (λ (p : A × Option ℕ). at p.1 p.0)) same
    ∙ map-map (λ (p : A × Option ℕ). at p.1 p.0) (λ (x : A). (x, line x)) all
