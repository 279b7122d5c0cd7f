-- Edges and paths of a graph.
use Rattle.std.proofs.Common.{◌≡◌, ℕ, Bool, true, false, not, ◌||◌, ◌&&◌, ◌==◌, cond, eqb, inl, inr, List, [], ◌∷◌, ◌++◌, map, reverse, refl, sym, ap, subst, ◌∙◌, arith}
use Rattle.std.specs.List.{Contains, filter, list_any}
use Rattle.std.specs.Cmp.{nat_eq_equiv}
use Rattle.std.proofs.lemmas.Bool.{cases_eq, eqb-true, or_cases, or_left, or_right}
use Rattle.std.proofs.lemmas.Bool.Decides.{nat_tests}
use Rattle.std.proofs.lemmas.List.Sorted.{IsPermutation-reverse, list_any-IsPermutation}
use Rattle.std.proofs.lemmas.Map.Views.{Contains-from_any, list_any-from_Contains}
use Rattle.cargo_lock_graph.specs.Drawing.{is_one_of}
use Rattle.cargo_lock_graph.specs.Edges.{Edge, far_end, far_ends, is_at}
use Rattle.cargo_lock_graph.specs.Paths.{IsPath, IsReachable}
use Rattle.cargo_lock_graph.specs.declared.graph.EdgeDirection.{EdgeDirection}
use Rattle.cargo_lock_graph.specs.declared.graph.EdgeDirection.TheVariants.{Outgoing, Incoming}
use Rattle.cargo_lock_bom.specs.Root.{is_needed}

-- ---- what is one of a list

is_one_any : (n : ℕ) (ms : List ℕ) → is_one_of n ms ≡ list_any (eqb n) ms
is_one_any n [] = refl
is_one_any n (m ∷ ms) = ap (λ b. eqb n m || b) (is_one_any n ms)

pub is_one_of-contains : (n : ℕ) (ms : List ℕ) → Contains ms n → is_one_of n ms ≡ true
is_one_of-contains n ms h = is_one_any n ms ∙ list_any-from_Contains nat_eq_equiv n ms h

pub far-contains : (n : ℕ) (ms : List ℕ) → is_one_of n ms ≡ true → Contains ms n
far-contains n ms h = Contains-from_any eqb-true n ms (sym (is_one_any n ms) ∙ h)

-- ---- tests of some

any-map : {X Y : Type 0} (p : Y → Bool) (f : X → Y) (xs : List X) → list_any p (map f xs) ≡ list_any (λ x. p (f x)) xs
any-map p f [] = refl
any-map p f (x ∷ xs) = ap (λ b. p (f x) || b) (any-map p f xs)

any-kept : {X : Type 0} (p : X → Bool) (b : Bool) (x : X) (xs : List X) → list_any p (cond b (x ∷ xs) xs) ≡ ((b && p x) || list_any p xs)
any-kept p true x xs = refl
any-kept p false x xs = refl

any-filter : {X : Type 0} (p q : X → Bool) (xs : List X) → list_any p (filter q xs) ≡ list_any (λ x. q x && p x) xs
any-filter p q [] = refl
any-filter p q (x ∷ xs) = any-kept p (q x) x (filter q xs) ∙ ap (λ b. (q x && p x) || b) (any-filter p q xs)

any-reverse : {X : Type 0} (p : X → Bool) (xs : List X) → list_any p (reverse xs) ≡ list_any p xs
any-reverse p xs = sym (list_any-IsPermutation p xs (reverse xs) (IsPermutation-reverse xs))

any-weaker : {X : Type 0} (p q : X → Bool) → ((x : X) → p x ≡ true → q x ≡ true) → (xs : List X) → list_any p xs ≡ true → list_any q xs ≡ true
any-weaker p q f [] h = h
any-weaker p q f (x ∷ xs) h = elim (or_cases (p x) (list_any p xs) h) [
  | inl here ↦ or_left (q x) (list_any q xs) (f x here)
  | inr later ↦ or_right (q x) (list_any q xs) (any-weaker p q f xs later)
]

-- a test of some far end, by the edges
far-any : (d : EdgeDirection) (edges : List Edge) (node : ℕ) (p : ℕ → Bool) → list_any p (far_ends d edges node) ≡ list_any (λ e. is_at d node e && p (far_end d e)) edges
far-any d edges node p =
    any-map p (far_end d) (reverse (filter (is_at d node) edges))
    ∙ any-reverse (λ e. p (far_end d e)) (filter (is_at d node) edges)
    ∙ any-filter (λ e. p (far_end d e)) (is_at d node) edges

-- ---- what another node needs

needed-step : (a n : ℕ) → ((a ≡ n) → ⊥) → (from to : ℕ) → ((from == a) && eqb n to) ≡ true → ((to == n) && not (from == n)) ≡ true
needed-step a n other from to h = grind (arith, nat_tests, other)

needed-by : (edges : List Edge) (a n : ℕ) → ((a ≡ n) → ⊥) → is_one_of n (far_ends Outgoing edges a) ≡ true → is_needed edges n ≡ true
needed-by edges a n other h =
    let there : list_any (λ (e : Edge). (e.from == a) && eqb n e.to) edges ≡ true =
    sym (far-any Outgoing edges a (eqb n)) ∙ sym (is_one_any n (far_ends Outgoing edges a)) ∙ h in
    far-any Incoming edges n (λ k. not (k == n))
    ∙ any-weaker (λ (e : Edge). (e.from == a) && eqb n e.to) (λ (e : Edge). (e.to == n) && not (e.from == n)) (λ e t. needed-step a n other e.from e.to t) edges there

-- the last of a path from another node is needed
pub needed-on : (edges : List Edge) (path : List ℕ) (a n : ℕ) → ((a ≡ n) → ⊥) → IsPath (far_ends Outgoing edges) a path n → is_needed edges n ≡ true
needed-on edges [] a n other path = absurd (other path)
needed-on edges (b ∷ bs) a n other path = elim (cases_eq b n) [
  | inl here ↦ needed-by edges a n other (subst (λ k. is_one_of k (far_ends Outgoing edges a) ≡ true) here path.0)
  | inr on ↦ needed-on edges bs b n on path.1
]

-- ---- paths

path-join : (far : ℕ → List ℕ) (a : ℕ) (p : List ℕ) (b : ℕ) (q : List ℕ) (c : ℕ) → IsPath far a p b → IsPath far b q c → IsPath far a (p ++ q) c
path-join far a [] b q c same path = subst (λ n. IsPath far n q c) (sym same) path
path-join far a (n ∷ ns) b q c path more = (path.0, path-join far n ns b q c path.1 more)

pub reachable-join : (far : ℕ → List ℕ) (a b c : ℕ) → IsReachable far a b → IsReachable far b c → IsReachable far a c
reachable-join far a b c f g = (f.0 ++ g.0, path-join far a f.0 b g.0 c f.1 g.1)
