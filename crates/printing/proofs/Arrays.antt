-- Arrays that are written item by item.
use Rattle.std.proofs.Common.{◌≡◌, ◌∙◌, ◌+◌, ◌<◌, ◌≤◌, ℕ, List, [], ◌∷◌, ◌++◌, Result, Ok, Err, ap, refl, sym, append-nil, append_assoc, get_or, length, map, take}
use Rattle.std.specs.List.{flat_map}
use Rattle.std.proofs.lemmas.Grind.{flat_map-append}
use Rattle.std.proofs.lemmas.List.{take_all, take_more}
use Rattle.std.proofs.lemmas.Simd.{map-map}
use Rattle.json.specs.Json.{Json, array}
use Rattle.json.specs.Token.{Token, begin_array, end_array}
use Rattle.json.specs.Tree.{items_tokens, json_tokens}
use Rattle.printing.specs.Json.{Adds, Draft, extended, items_of}
use Rattle.printing.proofs.Drafts.{as_tokens, twice}

-- an array that is open, with the tokens of some values
abbrev pub opened : {A : Type 0} → (A → List Token) → List A → List Token
opened piece xs = begin_array ∷ flat_map piece xs

-- one value more
pub one_more : {A E : Type 0} {u : Unit {0}} (a : Draft) {b c : Draft} (piece : A → List Token)
    (xs : List A) (i : ℕ) (d x : A) → i < length xs → x ≡ get_or xs i d
    → b ≡ extended a (opened piece (take i xs)) → Adds {E = E} (Ok u) b c (piece x)
    → c ≡ extended a (opened piece (take (i + 1) xs))
one_more {A} a piece xs i d x low is before more =
    let grown : flat_map piece (take (i + 1) xs) ≡ flat_map piece (take i xs) ++ piece x =
    ap (flat_map piece) (take_more xs i d low ∙ ap (λ y. take i xs ++ y ∷ []) (sym is))
    ∙ flat_map-append piece (take i xs) (x ∷ [])
    ∙ ap (λ l. flat_map piece (take i xs) ++ l) (append-nil (piece x)) in
    more.is ∙ ap (λ w. extended w (piece x)) before ∙ twice a _ (piece x)
    ∙ ap (λ l. extended a (begin_array ∷ l)) (sym grown)

-- the array of all items is written
pub array_ends : {E : Type 0} {r : Result (Unit {0}) E} {a b c : Draft} (js : List Json)
    (ts : List Token) → items_tokens (items_of js) ≡ ts ++ end_array ∷ []
    → b ≡ extended a (begin_array ∷ ts) → Adds r b c (end_array ∷ [])
    → Adds r a c (json_tokens (array (items_of js)))
array_ends {r = Ok u} {a} js ts all before last = record {
  is = last.is ∙ ap (λ w. extended w (end_array ∷ [])) before ∙ twice a _ (end_array ∷ [])
      ∙ ap (λ l. extended a (begin_array ∷ l)) (sym all);
}
array_ends {r = Err e} js ts all before last = record { is = tt }

-- the items of a list, one behind another
pub items-flat_map : {A B : Type 0} (f : B → Json) (g : A → B) (xs : List A)
    → items_tokens (items_of (map f (map g xs)))
    ≡ flat_map (λ x. json_tokens (f (g x))) xs ++ end_array ∷ []
items-flat_map f g [] = refl
items-flat_map f g (x ∷ xs) =
    ap (λ l. json_tokens (f (g x)) ++ l) (items-flat_map f g xs)
    ∙ sym (append_assoc (json_tokens (f (g x))) _ _)

-- the items of a list, one behind another
pub items-flat_map_of : {A : Type 0} (f : A → Json) (xs : List A)
    → items_tokens (items_of (map f xs)) ≡ flat_map (λ x. json_tokens (f x)) xs ++ end_array ∷ []
items-flat_map_of f [] = refl
items-flat_map_of f (x ∷ xs) =
    ap (λ l. json_tokens (f x) ++ l) (items-flat_map_of f xs)
    ∙ sym (append_assoc (json_tokens (f x)) _ _)

-- the array of all values of a list is written
pub array_written : {A E : Type 0} {r : Result (Unit {0}) E} {a b c : Draft} (f : A → Json)
    (xs : List A) (i : ℕ) → length xs ≤ i
    → b ≡ extended a (opened (λ x. json_tokens (f x)) (take i xs)) → Adds r b c (end_array ∷ [])
    → Adds r a c (json_tokens (array (items_of (map f xs))))
array_written {A} {a} f xs i all before last =
    let piece = λ (x : A). json_tokens (f x) in
    array_ends (map f xs) (flat_map piece xs) (items-flat_map_of f xs)
    (before ∙ ap (λ (l : List A). extended a (opened piece l)) (take_all i xs all)) last

-- the array of the values of a list, each by another value
pub array_mapped : {A B E : Type 0} {r : Result (Unit {0}) E} {a b c : Draft} (f : B → Json)
    (g : A → B) (xs : List A) (i : ℕ) → length xs ≤ i
    → b ≡ extended a (opened (λ x. json_tokens (f (g x))) (take i xs))
    → Adds r b c (end_array ∷ []) → Adds r a c (json_tokens (array (items_of (map f (map g xs)))))
array_mapped {A} {r = r} {a} {c = c} f g xs i all before last =
    let piece = λ (x : A). json_tokens (f (g x)) in
    array_ends (map f (map g xs)) (flat_map piece xs) (items-flat_map f g xs)
    (before ∙ ap (λ (l : List A). extended a (opened piece l)) (take_all i xs all)) last

-- what is written of the values of a list by another value
pub by_another : {A B E : Type 0} {r : Result (Unit {0}) E} {a c : Draft} (f : B → Json)
    (g : A → B) (xs : List A)
    → Adds r a c (json_tokens (array (items_of (map (λ x. f (g x)) xs))))
    → Adds r a c (json_tokens (array (items_of (map f (map g xs)))))
by_another f g xs =
    as_tokens (ap (λ js. json_tokens (array (items_of js))) (sym (map-map f g xs)))
