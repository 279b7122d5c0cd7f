-- The lines of a text beside those that Cargo writes.
use Rattle.std.specs.Prelude.{◌≡◌, ◌≢◌, ◌<◌, ◌∷◌, ℕ, zero, suc, if◌then◌else◌, List, [], codes, eqb}
use Rattle.std.specs.List.{starts_with}
use Rattle.cargo_lock_layout.specs.Lines.{line_or_empty}

-- a text without its first bytes, as many as the number says, and with `^` for each `%5E` in the
-- rest
abbrev pub with_carets_after : ℕ → List ℕ → List ℕ
with_carets_after n [] = []
with_carets_after (suc n) (b ∷ bs) = with_carets_after n bs
with_carets_after zero (b ∷ bs) =
    if starts_with eqb (b ∷ bs) (codes "%5E") then 94 ∷ with_carets_after 2 bs
    else b ∷ with_carets_after 0 bs

-- a text with `^` for each `%5E`
abbrev pub with_carets : List ℕ → List ℕ
with_carets text = with_carets_after 0 text

-- The line at a place, in the form that is compared. In the path of a URL Cargo writes `^`
-- unchanged, where this library writes `%5E`.
abbrev pub compared_at : List (List ℕ) → ℕ → List ℕ
compared_at lines k = with_carets (line_or_empty lines k)

-- the lines are the same, up to empty ones at the end
abbrev pub AreSameLines : List (List ℕ) → List (List ℕ) → Type 0
AreSameLines written wanted = (k : ℕ) → compared_at written k ≡ compared_at wanted k

-- a line that is not as Cargo writes it: its number, from 1 on, and both texts
pub record OtherLineData : Type 0 where
  pub number : ℕ
  pub written : List ℕ
  pub wanted : List ℕ

-- it is the first line that differs
pub record IsFirstOther (written wanted : List (List ℕ)) (other : OtherLineData) : Type 0 where
  pub place : ℕ
  pub number : other.number ≡ suc place
  pub here : other.written ≡ line_or_empty written place
  pub there : other.wanted ≡ line_or_empty wanted place
  pub differ : compared_at written place ≢ compared_at wanted place
  pub before : (k : ℕ) → k < place → compared_at written k ≡ compared_at wanted k
