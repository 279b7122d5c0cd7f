-- What a search has reached after one step more.
use Rattle.std.proofs.Common.{◌≡◌, ◌<◌, ◌≤◌, ◌+◌, ◌⊎◌, ◌∙◌, inl, inr, ℕ, Bool, true, false, List, [], ◌∷◌, ◌++◌, length, get_or, set, take, refl, sym, ap, subst, arith, length-append}
use Rattle.std.specs.List.{Contains}
use Rattle.std.proofs.lemmas.Bool.{cases_eq}
use Rattle.std.proofs.lemmas.List.{take_all}
use Rattle.std.proofs.lemmas.List.Elements.{Contains-append_left, Contains-push, Contains-push_cases}
use Rattle.std.proofs.Math.ListN.{length-set}
use Rattle.lists.specs.Chains.{OneLeadsTo}
use Rattle.lists.specs.Marks.{IsMarked, unmarked_count}
use Rattle.lists.specs.Reach.{HasReached, ReachData}
use Rattle.lists.proofs.MarkedPlaces.{marked-before, marked-here, marked-kept, unmarked_count-set}
use Rattle.lists.proofs.Members.{none-in, taken-before, taken-cases, taken-last}

-- ---- one place

-- a place without a mark gets one, and waits
pub reached-new : (old new : ReachData) (place : ℕ) → place < length old.marks → get_or old.marks place true ≡ false
    → new.marks ≡ set old.marks place true → new.waiting ≡ old.waiting ++ place ∷ []
    → HasReached (λ k. k ≡ place) old new
reached-new old new place low bare marks waits =
    let ms : List Bool = old.marks in
    let ws : List ℕ = old.waiting in
    let to : (k : ℕ) → IsMarked (set ms place true) k → IsMarked new.marks k = λ k h. subst (λ (xs : List Bool). IsMarked xs k) (sym marks) h in
    let put : (k : ℕ) → Contains (ws ++ place ∷ []) k → Contains new.waiting k = λ k h. subst (λ (xs : List ℕ). Contains xs k) (sym waits) h in
    record {
      count = ap length marks ∙ length-set ms place true;
      kept = λ k h. to k (marked-kept ms place k low h);
      all = λ k same. to k (subst (λ n. IsMarked (set ms place true) n) (sym same) (marked-here ms place low));
      waits = λ k h. put k (Contains-append_left ws (place ∷ []) k h);
      added = λ k h. elim (marked-before ms place k (subst (λ (xs : List Bool). IsMarked xs k) marks h)) [
        | inl before ↦ inl before
        | inr same ↦ inr (same, put k (subst (λ n. Contains (ws ++ place ∷ []) n) (sym same) (Contains-push ws place)))
      ];
      marked = λ k h. elim (Contains-push_cases ws place k (subst (λ (xs : List ℕ). Contains xs k) waits h)) [
        | inl before ↦ inl before
        | inr same ↦ inr (to k (subst (λ n. IsMarked (set ms place true) n) same (marked-here ms place low)))
      ];
      left =
          let count = unmarked_count-set ms place bare in
          let fewer = ap unmarked_count marks in
          let more = ap length waits in
          let long = length-append ws (place ∷ []) in
          omega (arith, count, fewer, more, long);
    }

-- the places have marks already
pub reached-before : (P : ℕ → Type 0) (s : ReachData) → ((k : ℕ) → P k → IsMarked s.marks k) → HasReached P s s
reached-before P s all = record {
  count = refl;
  kept = λ k h. h;
  all = all;
  waits = λ k h. h;
  added = λ k h. inl h;
  marked = λ k h. inl h;
  left = refl;
}

-- a place with a mark is reached
pub reached-again : (s : ReachData) (place : ℕ) → IsMarked s.marks place → HasReached (λ k. k ≡ place) s s
reached-again s place marked = reached-before (λ k. k ≡ place) s (λ k same. subst (λ n. IsMarked s.marks n) (sym same) marked)

-- ---- steps joined

-- there is no place to be reached
pub reached-none : (P : ℕ → Type 0) (s : ReachData) → ((k : ℕ) → ¬ P k) → HasReached P s s
reached-none P s none = reached-before P s (λ k p. absurd (none k p))

-- one step and then another
pub reached-both : (P Q R : ℕ → Type 0) (a b c : ReachData) → ((k : ℕ) → R k → P k ⊎ Q k) → ((k : ℕ) → P k → R k) → ((k : ℕ) → Q k → R k)
    → HasReached P a b → HasReached Q b c → HasReached R a c
reached-both P Q R a b c cases first second f g = record {
  count = g.count ∙ f.count;
  kept = λ k h. g.kept k (f.kept k h);
  all = λ k r. elim (cases k r) [
    | inl p ↦ g.kept k (f.all k p)
    | inr q ↦ g.all k q
  ];
  waits = λ k h. g.waits k (f.waits k h);
  added = λ k h. elim (g.added k h) [
    | inl before ↦ elim (f.added k before) [
      | inl old ↦ inl old
      | inr new ↦ inr (first k new.0, g.waits k new.1)
    ]
    | inr new ↦ inr (second k new.0, new.1)
  ];
  marked = λ k h. elim (g.marked k h) [
    | inl before ↦ elim (f.marked k before) [
      | inl old ↦ inl old
      | inr new ↦ inr (g.kept k new)
    ]
    | inr new ↦ inr new
  ];
  left = g.left ∙ f.left;
}

-- the same step, told by another predicate that holds at the same places
pub reached-alike : (P Q : ℕ → Type 0) (a b : ReachData) → ((k : ℕ) → P k → Q k) → ((k : ℕ) → Q k → P k) → HasReached P a b → HasReached Q a b
reached-alike P Q a b to from f = record {
  count = f.count;
  kept = f.kept;
  all = λ k q. f.all k (from k q);
  waits = f.waits;
  added = λ k h. elim (f.added k h) [
    | inl old ↦ inl old
    | inr new ↦ inr (to k new.0, new.1)
  ];
  marked = f.marked;
  left = f.left;
}

-- ---- what some elements lead to, one element after another

pub each-none : {X : Type 0} (leads : X → ℕ → Type 0) (xs : List X) (s : ReachData) → HasReached (OneLeadsTo leads (take 0 xs)) s s
each-none leads xs s = reached-none (OneLeadsTo leads (take 0 xs)) s (λ k h. none-in h.0 h.1)

pub each-next : {X : Type 0} (leads : X → ℕ → Type 0) (xs : List X) (i : ℕ) (x : X) (a b c : ReachData) → i < length xs → x ≡ get_or xs i x
    → HasReached (OneLeadsTo leads (take i xs)) a b → HasReached (leads x) b c → HasReached (OneLeadsTo leads (take (i + 1) xs)) a c
each-next leads xs i x a b c low is f g =
    reached-both (OneLeadsTo leads (take i xs)) (leads x) (OneLeadsTo leads (take (i + 1) xs)) a b c
    (λ k h. elim (taken-cases xs i h.0 x low is h.1) [
      | inl before ↦ inl (h.0, before, h.2)
      | inr here ↦ inr (subst (λ y. leads y k) (sym here) h.2)
    ])
    (λ k h. (h.0, taken-before xs i h.0 x low h.1, h.2))
    (λ k h. (x, taken-last xs i x low is, h))
    f g

pub each-all : {X : Type 0} (leads : X → ℕ → Type 0) (xs : List X) (i : ℕ) (a b : ReachData) → length xs ≤ i
    → HasReached (OneLeadsTo leads (take i xs)) a b → HasReached (OneLeadsTo leads xs) a b
each-all leads xs i a b end f = subst (λ ys. HasReached (OneLeadsTo leads ys) a b) (take_all i xs end) f

-- the elements are the places themselves
pub each-is : (xs : List ℕ) (a b : ReachData) → HasReached (OneLeadsTo (λ n k. k ≡ n) xs) a b → HasReached (Contains xs) a b
each-is xs a b f =
    reached-alike (OneLeadsTo (λ n k. k ≡ n) xs) (Contains xs) a b
    (λ k h. subst (λ n. Contains xs n) (sym h.2) h.1)
    (λ k h. (k, h, refl))
    f

-- ---- the places at which P holds, one place after another

-- P holds at the place, which is below the bound
abbrev pub HoldsBelow : (ℕ → Type 0) → ℕ → ℕ → Type 0
HoldsBelow P bound place = (place < bound) × P place

pub below-none : (P : ℕ → Type 0) (s : ReachData) → HasReached (HoldsBelow P 0) s s
below-none P s = reached-none (HoldsBelow P 0) s (λ k h. let low = h.0 in omega (arith, low))

-- P holds at the next place
pub below-next : (P : ℕ → Type 0) (n : ℕ) (a b c : ReachData) → P n
    → HasReached (HoldsBelow P n) a b → HasReached (λ k. k ≡ n) b c → HasReached (HoldsBelow P (n + 1)) a c
below-next P n a b c here f g =
    reached-both (HoldsBelow P n) (λ k. k ≡ n) (HoldsBelow P (n + 1)) a b c
    (λ k h. elim (cases_eq k n) [
      | inl same ↦ inr same
      | inr other ↦ inl (let low = h.0 in omega (arith, low, other), h.1)
    ])
    (λ k h. (let low = h.0 in omega (arith, low), h.1))
    (λ k same. (omega (arith, same), subst P (sym same) here))
    f g

-- P does not hold at the next place
pub below-pass : (P : ℕ → Type 0) (n : ℕ) (a b : ReachData) → ¬ P n → HasReached (HoldsBelow P n) a b → HasReached (HoldsBelow P (n + 1)) a b
below-pass P n a b miss f =
    reached-alike (HoldsBelow P n) (HoldsBelow P (n + 1)) a b
    (λ k h. (let low = h.0 in omega (arith, low), h.1))
    (λ k h. elim (cases_eq k n) [
      | inl same ↦ absurd (miss (subst P same h.1))
      | inr other ↦ (let low = h.0 in omega (arith, low, other), h.1)
    ])
    f

-- P holds at no place beyond
pub below-all : (P : ℕ → Type 0) (n : ℕ) (a b : ReachData) → ((k : ℕ) → P k → k < n) → HasReached (HoldsBelow P n) a b → HasReached P a b
below-all P n a b within f = reached-alike (HoldsBelow P n) P a b (λ k h. h.1) (λ k p. (within k p, p)) f
