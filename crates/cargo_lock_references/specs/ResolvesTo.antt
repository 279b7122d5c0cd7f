-- What a reference resolves to in a list of identities, as Cargo reads it.
-- The rule is that of `EncodableDependency::resolve` in `src/lockfile/encoding.rs` of the Rust
-- crate `cargo-lock` 11.0.1.
use Rattle.std.specs.Prelude.{◌≡◌, ◌<◌, ◌⊎◌, ℕ, List, Option, Some, None, IfSome, slice_get}
use Rattle.cargo_lock_parts.specs.Identity.{Identity}
use Rattle.cargo_lock_parts.specs.Source.{MarkedSource}
use Rattle.cargo_lock_references.specs.Reference.{Reference}
use Rattle.cargo_lock_references.specs.Records.{unmarked_source}

-- the identity has the reference's name and, if one is written, its version
abbrev pub Fits : Reference → Identity → Type 0
Fits f i = (i.name ≡ f.name) × IfSome f.version (λ v. i.version ≡ v)

-- the identity is at a place that fits, and no earlier place fits
abbrev pub IsFirstThatFits : Reference → List Identity → Identity → Type 0
IsFirstThatFits f list i = (k : ℕ) × (slice_get list k ≡ Some i) × Fits f i
    × ((j : ℕ) (y : Identity) → j < k → slice_get list j ≡ Some y → ¬ Fits f y)

-- no place fits
abbrev pub NoneFits : Reference → List Identity → Type 0
NoneFits f list = (j : ℕ) (y : Identity) → slice_get list j ≡ Some y → ¬ Fits f y

-- the identity is made of the reference's own parts, which include a version
abbrev pub IsOwnWords : Reference → Identity → Type 0
IsOwnWords f i = (i.name ≡ f.name) × (f.version ≡ Some i.version)
    × (i.source ≡ unmarked_source f.source)

-- what a reference resolves to, by whether it has a source
abbrev pub resolves_to_by : Option MarkedSource → Reference → List Identity → Identity → Type 0
resolves_to_by (Some s) f list i = IsOwnWords f i
resolves_to_by None f list i = IsFirstThatFits f list i ⊎ (NoneFits f list × IsOwnWords f i)

-- With a source, the reference resolves to its own parts. Without one, it resolves to the first
-- identity of the list that it fits, and if it fits none, to its own parts.
abbrev pub ResolvesTo : Reference → List Identity → Identity → Type 0
ResolvesTo f list i = resolves_to_by f.source f list i
