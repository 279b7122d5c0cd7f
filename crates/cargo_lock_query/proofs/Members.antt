-- Which numbers are in a list, by a test.
use Rattle.std.proofs.Common.{◌≡◌, inl, inr, ℕ, true, eqb, List, [], ◌∷◌, map, sym, ap, subst, ◌∙◌}
use Rattle.std.specs.List.{Contains}
use Rattle.std.proofs.lemmas.Bool.{eq-eqb, eqb-true, or_cases, or_left, or_right}
use Rattle.cargo_lock_graph.specs.Drawing.{is_one_of}
use Rattle.lists.proofs.Members.{contains-cases, first-in, later-in, none-in}

pub one-of-in : (b : ℕ) (ns : List ℕ) → is_one_of b ns ≡ true → Contains ns b
one-of-in b [] h = absurd cc
one-of-in b (n ∷ ns) h = elim (or_cases (eqb b n) (is_one_of b ns) h) [
  | inl same ↦ subst (λ m. Contains (n ∷ ns) m) (sym (eqb-true b n same)) (first-in n ns)
  | inr later ↦ later-in n ns b (one-of-in b ns later)
]

pub in-one-of : (b : ℕ) (ns : List ℕ) → Contains ns b → is_one_of b ns ≡ true
in-one-of b [] h = absurd (none-in b h)
in-one-of b (n ∷ ns) h = elim (contains-cases n ns b h) [
  | inl same ↦ or_left (eqb b n) (is_one_of b ns) (eq-eqb b n (sym same))
  | inr later ↦ or_right (eqb b n) (is_one_of b ns) (in-one-of b ns later)
]

-- numbers that a function gives
pub one-of-map : {X : Type 0} (f : X → ℕ) (xs : List X) (n : ℕ) → is_one_of n (map f xs) ≡ true → (x : X) × Contains xs x × (f x ≡ n)
one-of-map f [] n h = absurd cc
one-of-map f (x ∷ xs) n h = elim (or_cases (eqb n (f x)) (is_one_of n (map f xs)) h) [
  | inl same ↦ (x, first-in x xs, sym (eqb-true n (f x) same))
  | inr later ↦ let r = one-of-map f xs n later in (r.0, later-in x xs r.0 r.1, r.2)
]

pub map-one-of : {X : Type 0} (f : X → ℕ) (xs : List X) (n : ℕ) (x : X) → Contains xs x → f x ≡ n → is_one_of n (map f xs) ≡ true
map-one-of f [] n x h is = absurd (none-in x h)
map-one-of f (y ∷ ys) n x h is = elim (contains-cases y ys x h) [
  | inl same ↦ or_left (eqb n (f y)) (is_one_of n (map f ys)) (eq-eqb n (f y) (sym is ∙ ap f (sym same)))
  | inr later ↦ or_right (eqb n (f y)) (is_one_of n (map f ys)) (map-one-of f ys n x later is)
]
