-- How a search begins, goes on and ends.
use Rattle.std.proofs.Common.{◌≡◌, ◌<◌, ◌∙◌, ◌↔◌, inl, inr, ℕ, Bool, true, false, List, [], ◌∷◌, ◌++◌, length, replicate, Some, None, refl, sym, ap, subst, arith, length-append}
use Rattle.std.specs.List.{Contains}
use Rattle.std.proofs.lemmas.List.{length-replicate}
use Rattle.std.proofs.lemmas.List.Elements.{Contains-append_left, Contains-push, Contains-push_cases}
use Rattle.std.proofs.lemmas.Option.{slice_get_within}
use Rattle.lists.specs.Chains.{IsChain, IsReachedFrom}
use Rattle.lists.specs.Marks.{IsMarked, unmarked_count}
use Rattle.lists.specs.Reach.{HasReached, IsSearch, TakesNext, ReachData, fresh, left_count}
use Rattle.lists.proofs.MarkedPlaces.{none-marked}
use Rattle.lists.proofs.Members.{none-in}

-- ---- chains

-- a chain goes on
pub chain-on : {X : Type 0} (leads : X → X → Type 0) (a : X) (chain : List X) (b c : X) → IsChain leads a chain b → leads b c → IsChain leads a (chain ++ c ∷ []) c
chain-on leads a [] b c same to = (subst (λ n. leads n c) (sym same) to, refl)
chain-on leads a (n ∷ ns) b c h to = (h.0, chain-on leads n ns b c h.1 to)

-- a start is reached
pub reached-start : {X : Type 0} (P : X → Type 0) (leads : X → X → Type 0) (x : X) → P x → IsReachedFrom P leads x
reached-start P leads x here = (x, [], here, refl)

-- what a reached one leads to is reached
pub reached-on : {X : Type 0} (P : X → Type 0) (leads : X → X → Type 0) (x y : X) → IsReachedFrom P leads x → leads x y → IsReachedFrom P leads y
reached-on P leads x y (start, chain, here, way) to = (start, chain ++ y ∷ [], here, chain-on leads start chain x y way to)

-- ---- the search

-- the starts are reached, where nothing was reached before
pub search-start : (P : ℕ → Type 0) (leads : ℕ → ℕ → Type 0) (count : ℕ) (a b : ReachData) → a ≡ fresh count
    → HasReached P a b → IsSearch P leads count b
search-start P leads count a b none f =
    let marks : a.marks ≡ replicate count false = ap (λ (s : ReachData). s.marks) none in
    let empty : a.waiting ≡ [] = ap (λ (s : ReachData). s.waiting) none in
    let bare : (k : ℕ) → ¬ IsMarked a.marks k = λ k h. none-marked count k (subst (λ (ms : List Bool). IsMarked ms k) marks h) in
    let new : (k : ℕ) → IsMarked b.marks k → P k × Contains b.waiting k = λ k h. elim (f.added k h) [
      | inl old ↦ absurd (bare k old)
      | inr new ↦ new
    ] in record {
      long = f.count ∙ ap length marks ∙ length-replicate count false;
      sound = λ k h. reached-start P leads k (new k h).0;
      waits = λ k h. elim (f.marked k h) [
        | inl old ↦ absurd (none-in k (subst (λ (ws : List ℕ). Contains ws k) empty old))
        | inr marked ↦ marked
      ];
      starts = λ k p. f.all k p;
      closed = λ k l h to. inl (new k h).1;
    }

-- what the place that was taken out leads to is reached
pub search-next : (P : ℕ → Type 0) (leads : ℕ → ℕ → Type 0) (count : ℕ) (before popped after : ReachData) (place : ℕ)
    → IsSearch P leads count before → TakesNext before popped (Some place)
    → HasReached (leads place) popped after → IsSearch P leads count after
search-next P leads count before popped after place h taken f =
    let same = taken.0 in
    let ends = taken.1 in
    let old : (k : ℕ) → IsMarked before.marks k → IsMarked popped.marks k = λ k m. subst (λ (ms : List Bool). IsMarked ms k) (sym same) m in
    let back : (k : ℕ) → IsMarked popped.marks k → IsMarked before.marks k = λ k m. subst (λ (ms : List Bool). IsMarked ms k) same m in
    let there : Contains before.waiting place = subst (λ (ws : List ℕ). Contains ws place) (sym ends) (Contains-push popped.waiting place) in
    let reached : IsReachedFrom P leads place = h.sound place (h.waits place there) in
    record {
      long = f.count ∙ ap length same ∙ h.long;
      sound = λ k m. elim (f.added k m) [
        | inl before ↦ h.sound k (back k before)
        | inr new ↦ reached-on P leads place k reached new.0
      ];
      waits = λ k w. elim (f.marked k w) [
        | inl waited ↦ f.kept k (old k (h.waits k (subst (λ (ws : List ℕ). Contains ws k) (sym ends) (Contains-append_left popped.waiting (place ∷ []) k waited))))
        | inr marked ↦ marked
      ];
      starts = λ k p. f.kept k (old k (h.starts k p));
      closed = λ a b m to. elim (f.added a m) [
        | inl before ↦ elim (h.closed a b (back a before) to) [
          | inl waited ↦ elim (Contains-push_cases popped.waiting place a (subst (λ (ws : List ℕ). Contains ws a) ends waited)) [
            | inl still ↦ inl (f.waits a still)
            | inr here ↦ inr (f.all b (subst (λ n. leads n b) (sym here) to))
          ]
          | inr marked ↦ inr (f.kept b (old b marked))
        ]
        | inr new ↦ inl new.1
      ];
    }

-- a chain from a reached place leads to reached places, where nothing waits
chain-reached : (P : ℕ → Type 0) (leads : ℕ → ℕ → Type 0) (count : ℕ) (s : ReachData) → IsSearch P leads count s → s.waiting ≡ []
    → (a : ℕ) (chain : List ℕ) (b : ℕ) → IsMarked s.marks a → IsChain leads a chain b → IsMarked s.marks b
chain-reached P leads count s h empty a [] b marked same = subst (λ n. IsMarked s.marks n) same marked
chain-reached P leads count s h empty a (n ∷ ns) b marked chain =
    let next : IsMarked s.marks n = elim (h.closed a n marked chain.0) [
      | inl waits ↦ absurd (none-in a (subst (λ (ws : List ℕ). Contains ws a) empty waits))
      | inr reached ↦ reached
    ] in chain-reached P leads count s h empty n ns b next chain.1

-- nothing waits, so exactly what a chain leads to has a mark
pub search-end : (P : ℕ → Type 0) (leads : ℕ → ℕ → Type 0) (count : ℕ) (s t : ReachData) → IsSearch P leads count s → TakesNext s t None
    → (k : ℕ) → IsMarked t.marks k ↔ IsReachedFrom P leads k
search-end P leads count s t h taken k =
    let same : t.marks ≡ s.marks = ap (λ (d : ReachData). d.marks) taken.0 in (
      λ m. h.sound k (subst (λ (ms : List Bool). IsMarked ms k) same m),
      λ r. subst (λ (ms : List Bool). IsMarked ms k) (sym same) (chain-reached P leads count s h taken.1 r.0 r.1 k (h.starts r.0 r.2) r.3),
    )

-- the marks are those of as many places at the end
pub search-long : (P : ℕ → Type 0) (leads : ℕ → ℕ → Type 0) (count : ℕ) (s t : ReachData) → IsSearch P leads count s → TakesNext s t None → length t.marks ≡ count
search-long P leads count s t h taken = ap (λ (d : ReachData). length d.marks) taken.0 ∙ h.long

-- a place that waits is one of the places
pub waits-within : (P : ℕ → Type 0) (leads : ℕ → ℕ → Type 0) (count : ℕ) (s t : ReachData) (place : ℕ) → IsSearch P leads count s → TakesNext s t (Some place) → place < count
waits-within P leads count s t place h taken =
    let low = slice_get_within s.marks place true (h.waits place (subst (λ (ws : List ℕ). Contains ws place) (sym taken.1) (Contains-push t.waiting place))) in
    let long = h.long in
    omega (arith, low, long)

-- less is left once a place was taken out and what it leads to was reached
pub less-left : (P : ℕ → Type 0) (a b c : ReachData) (place : ℕ) → TakesNext a b (Some place) → HasReached P b c → left_count c < left_count a
less-left P a b c place taken f =
    let left = f.left in
    let marks = ap unmarked_count taken.0 in
    let waits = ap length taken.1 in
    let long = length-append b.waiting (place ∷ []) in
    omega (arith, left, marks, waits, long)
