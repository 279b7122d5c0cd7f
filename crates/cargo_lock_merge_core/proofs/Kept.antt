-- What a merge of sets of places has kept so far.
use Rattle.std.proofs.Common.{◌≡◌, ℕ, ◌+◌, ◌<◌, ◌≤◌, ◌⊎◌, ◌↔◌, inl, inr, List, [], ◌∷◌, ◌++◌, length, get_or, take, sym, subst, arith}
use Rattle.std.specs.List.{Contains}
use Rattle.std.specs.List.Sorted.{IsStrictlyIncreasing}
use Rattle.std.proofs.lemmas.List.{take_all}
use Rattle.std.proofs.lemmas.List.Elements.{Contains-append_left, Contains-push, Contains-push_cases}
use Rattle.cargo_lock_merge_core.specs.Sets.{AreBelowPlace}
use Rattle.cargo_lock_merge_core.specs.Rule3.{IsKept}
use Rattle.lists.proofs.Members.{none-in}
use Rattle.cargo_lock_merge_core.proofs.Ascending.{far-below, pushed-below, taken-more, up-push}

-- Of the first places those are kept at which P holds; they are below the next.
pub record AreKept (P : ℕ → Type 0) (places : List ℕ) (i : ℕ) (merged : List ℕ) : Type 0 where
  pub ascending : IsStrictlyIncreasing merged
  pub below : (k : ℕ) → k < length merged → i < length places → get_or merged k 0 < get_or places i 0
  pub holds : (p : ℕ) → Contains merged p ↔ (Contains (take i places) p × P p)

pub kept-start : (P : ℕ → Type 0) (places : List ℕ) → AreKept P places 0 []
kept-start P places = record {
  ascending = λ k within. absurd (omega (arith, within));
  below = λ k low within. absurd (omega (arith, low));
  holds = λ p. (λ h. absurd (none-in p h), λ h. absurd (none-in p h.0));
}

pub kept-push : (P : ℕ → Type 0) (places : List ℕ) (i : ℕ) (merged : List ℕ) → AreKept P places i merged → IsStrictlyIncreasing places → i < length places
    → P (get_or places i 0) → AreKept P places (i + 1) (merged ++ get_or places i 0 ∷ [])
kept-push P places i merged k up low here =
    let x : ℕ = get_or places i 0 in
    record {
      ascending = up-push merged x k.ascending (λ n h. k.below n h low);
      below = λ n h within. pushed-below merged x (get_or places (i + 1) 0)
          (λ m h'. let a = k.below m h' low in let b = far-below places up i (i + 1) (omega arith) within in omega (arith, a, b))
          (far-below places up i (i + 1) (omega arith) within) n h;
      holds = λ p. (
        λ h. elim (Contains-push_cases merged x p h) [
          | inl old ↦ let q = (k.holds p).0 old in ((taken-more places i low p).1 (inl q.0), q.1)
          | inr new ↦ ((taken-more places i low p).1 (inr new), subst P new here)
        ],
        λ h. elim ((taken-more places i low p).0 h.0) [
          | inl old ↦ Contains-append_left merged (x ∷ []) p ((k.holds p).1 (old, h.1))
          | inr new ↦ subst (λ n. Contains (merged ++ x ∷ []) n) new (Contains-push merged x)
        ],
      );
    }

pub kept-pass : (P : ℕ → Type 0) (places : List ℕ) (i : ℕ) (merged : List ℕ) → AreKept P places i merged → IsStrictlyIncreasing places → i < length places
    → ¬ P (get_or places i 0) → AreKept P places (i + 1) merged
kept-pass P places i merged k up low gone = record {
  ascending = k.ascending;
  below = λ n h within. let a = k.below n h low in let b = far-below places up i (i + 1) (omega arith) within in omega (arith, a, b);
  holds = λ p. (
    λ h. let q = (k.holds p).0 h in ((taken-more places i low p).1 (inl q.0), q.1),
    λ h. elim ((taken-more places i low p).0 h.0) [
      | inl old ↦ (k.holds p).1 (old, h.1)
      | inr new ↦ absurd (gone (subst P (sym new) h.1))
    ],
  );
}

-- at the end, where P holds at places of the list only
pub kept-end : (P : ℕ → Type 0) (places : List ℕ) (i : ℕ) (merged : List ℕ) → AreKept P places i merged → length places ≤ i
    → ((p : ℕ) → P p → Contains places p) → (p : ℕ) → Contains merged p ↔ P p
kept-end P places i merged k end among p =
    let whole : take i places ≡ places = take_all i places end in (
      λ h. ((k.holds p).0 h).1,
      λ h. (k.holds p).1 (subst (λ zs. Contains zs p) (sym whole) (among p h), h),
    )

-- the place is kept of three sets
abbrev pub IsKeptOf : List ℕ → List ℕ → List ℕ → ℕ → Type 0
IsKeptOf b o t p = IsKept (Contains b p) (Contains o p) (Contains t p)

pub kept-among : (b o t places : List ℕ) → ((p : ℕ) → Contains places p ↔ (Contains o p ⊎ Contains t p)) → (p : ℕ) → IsKeptOf b o t p → Contains places p
kept-among b o t places holds p (inl both) = (holds p).1 (inl both.0)
kept-among b o t places holds p (inr one) = (holds p).1 one.0

-- what is kept depends on which facts hold only
pub kept-alike : {b o t b' o' t' : Type 0} → (b ↔ b') → (o ↔ o') → (t ↔ t') → IsKept b o t → IsKept b' o' t'
kept-alike eb eo et (inl both) = inl (eo.0 both.0, et.0 both.1)
kept-alike eb eo et (inr (inl o, none)) = inr (inl (eo.0 o), λ h. none (eb.1 h))
kept-alike eb eo et (inr (inr t, none)) = inr (inr (et.0 t), λ h. none (eb.1 h))

-- places before an index are below each later place
pub below-later : (xs places : List ℕ) (at i : ℕ) → IsStrictlyIncreasing places → i + 1 < length places → AreBelowPlace xs at (get_or places i 0) → AreBelowPlace xs at (get_or places (i + 1) 0)
below-later xs places at i up within below k low low' =
    let a = below k low low' in
    let b = far-below places up i (i + 1) (omega arith) within in
    omega (arith, a, b)
