-- Values that may be absent, one after another.
use Rattle.std.specs.Prelude.{List, [], ◌∷◌, Option, Some, None, option_map}

infixl 10 ◌>>=◌
-- the next value, if there is one
abbrev pub ◌>>=◌ : {A B : Type 0} → Option A → (A → Option B) → Option B
None >>= f = None
Some x >>= f = f x

-- f of each item, or none if it has none for some item
abbrev pub map_all : {X Y : Type 0} → (X → Option Y) → List X → Option (List Y)
map_all f [] = Some []
map_all f (x ∷ xs) = f x >>= λ y. option_map (λ ys. y ∷ ys) (map_all f xs)

-- f of an item that may be absent
abbrev pub map_some : {X Y : Type 0} → (X → Option Y) → Option X → Option (Option Y)
map_some f None = Some None
map_some f (Some x) = option_map Some (f x)

-- both are present and R holds for them, or neither is present
abbrev pub BothOrNone : {X Y : Type 0} → (X → Y → Type 0) → Option X → Option Y → Type 0
BothOrNone R None None = Unit {0}
BothOrNone R None (Some y) = ⊥
BothOrNone R (Some x) None = ⊥
BothOrNone R (Some x) (Some y) = R x y
