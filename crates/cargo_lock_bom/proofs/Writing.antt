-- Arrays of values that are written value by value.
use Rattle.std.proofs.Common.{◌≡◌, ◌∙◌, ◌+◌, ◌<◌, ℕ, List, [], ◌∷◌, ◌++◌, Result, Ok, Err, ap, refl, sym, append_assoc, map, take, length, get_or}
use Rattle.std.specs.List.{flat_map}
use Rattle.json.specs.Token.{Token, begin_array, end_array}
use Rattle.json.specs.Tree.{items_tokens}
use Rattle.serde_json.specs.Data.{Data, array}
use Rattle.serde_json.specs.View.{items_of}
use Rattle.serde_json.specs.Written.{items_outline}
use Rattle.printing.specs.Json.{Adds, Draft, extended}
use Rattle.printing.proofs.Arrays.{one_more, opened}
use Rattle.printing.proofs.Drafts.{twice}
use Rattle.cargo_lock_bom.specs.Tokens.{data_tokens}

-- the items of a list, one behind another
items-flat_map : {A : Type 0} (f : A → Data) (xs : List A)
    → items_tokens (items_outline (items_of (map f xs))) ≡ flat_map (λ x. data_tokens (f x)) xs ++ end_array ∷ []
items-flat_map f [] = refl
items-flat_map f (x ∷ xs) =
    ap (λ l. data_tokens (f x) ++ l) (items-flat_map f xs)
    ∙ sym (append_assoc (data_tokens (f x)) _ _)

-- the items of an array that are written so far
abbrev pub items_so_far : {A : Type 0} → (A → Data) → List A → List Token
items_so_far f xs = opened (λ x. data_tokens (f x)) xs

-- one item more
pub next : {A E : Type 0} {u : Unit {0}} (a : Draft) {b c : Draft} (f : A → Data) (xs : List A) (i : ℕ) (d x : A) → i < length xs
    → x ≡ get_or xs i d → b ≡ extended a (items_so_far f (take i xs)) → Adds {E = E} (Ok u) b c (data_tokens (f x))
    → c ≡ extended a (items_so_far f (take (i + 1) xs))
next {A} a f = one_more a (λ (x : A). data_tokens (f x))

-- the array of all items is written
pub array_ends : {A E : Type 0} {r : Result (Unit {0}) E} {a b c : Draft} (f : A → Data) (xs : List A)
    → b ≡ extended a (items_so_far f xs) → Adds r b c (end_array ∷ []) → Adds r a c (data_tokens (array (items_of (map f xs))))
array_ends {r = Ok u} {a} f xs before last = record {
  is = last.is ∙ ap (λ w. extended w (end_array ∷ [])) before ∙ twice a _ (end_array ∷ [])
      ∙ ap (λ l. extended a (begin_array ∷ l)) (sym (items-flat_map f xs));
}
array_ends {r = Err e} f xs before last = record { is = tt }
