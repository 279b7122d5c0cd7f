-- Places of a list at which something holds.
use Rattle.std.specs.Prelude.{◌↔◌, ◌<◌, ℕ, List}
use Rattle.std.specs.List.{Contains}
use Rattle.std.specs.List.Sorted.{IsStrictlyIncreasing}

-- the places below the bound at which P holds, each once and in their order
pub record IsPlaces (P : ℕ → Type 0) (bound : ℕ) (places : List ℕ) : Type 0 where
  pub ascending : IsStrictlyIncreasing places
  pub listed : (k : ℕ) → Contains places k ↔ ((k < bound) × P k)
