-- How deep lists and texts nest in JSON.
use Rattle.std.proofs.Common.{◌+◌, ◌≤◌, ℕ, List, [], ◌∷◌, Option, None, Some, arith, map}
use Rattle.json.specs.Json.{Json, array}
use Rattle.json.specs.Tree.{depth, items_depth}
use Rattle.printing.specs.Json.{items_of}
use Rattle.printing.specs.Value.{text_or_null}

pub text-depth : (text : Option (List ℕ)) → depth (text_or_null text) ≤ 0
text-depth None = omega arith
text-depth (Some text) = omega arith

-- a list nests as deep as its items
items-depth : {A : Type 0} (deep : ℕ) (f : A → Json) → ((x : A) → depth (f x) ≤ deep) → (xs : List A)
    → items_depth (items_of (map f xs)) ≤ deep
items-depth deep f each [] = omega arith
items-depth deep f each (x ∷ xs) = omega (arith, each x, items-depth deep f each xs)

pub array-depth : {A : Type 0} (deep : ℕ) (f : A → Json) → ((x : A) → depth (f x) ≤ deep) → (xs : List A)
    → depth (array (items_of (map f xs))) ≤ deep + 1
array-depth deep f each xs = omega (arith, items-depth deep f each xs)
