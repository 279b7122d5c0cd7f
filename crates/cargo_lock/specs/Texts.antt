-- Texts that are seen through references. No public contract cites these definitions.
use Rattle.std.specs.Prelude.{ℕ, List, map}
use Rattle.std.specs.Borrow.{Bor}

-- the texts that the references refer to
abbrev pub texts_at : List (Bor (List ℕ)) → List (List ℕ)
texts_at = map (λ b. b.now)
