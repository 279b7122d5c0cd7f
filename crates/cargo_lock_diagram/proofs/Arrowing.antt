-- The arrows of a picture, from one node after another.
use Rattle.std.proofs.Common.{◌≡◌, ◌<◌, ◌+◌, inl, inr, ℕ, Bool, true, false, List, [], ◌∷◌, ◌++◌, length, get_or, map, take, slice_get, unwrap_or, Option, Some, None, refl, sym, ap, subst, ◌∙◌, arith, append-nil, append_assoc}
use Rattle.std.specs.List.{AllPairs, Contains, filter}
use Rattle.std.proofs.lemmas.Bool.{cases_Bool, cases_eq}
use Rattle.std.proofs.lemmas.List.{map-append, take_more}
use Rattle.std.proofs.lemmas.List.Elements.{Contains-append_cases, Contains-append_left, Contains-append_right, filter-append}
use Rattle.std.proofs.lemmas.List.Kept.{AllPairs-filter, AllPairs-from_increasing}
use Rattle.std.proofs.lemmas.Option.{slice_get_within}
use Rattle.cargo_lock_graph.specs.Edges.{GraphData}
use Rattle.cargo_lock_diagram.specs.Arrows.{AreArrows, arrows_to, is_marked}
use Rattle.lists.specs.Marks.{IsMarked}
use Rattle.lists.specs.Places.{IsPlaces}
use Rattle.cargo_lock_diagram.specs.Scene.{AreEdgesAmong, ComesBefore}
use Rattle.cargo_lock_query.specs.Chains.{needs}
use Rattle.cargo_lock_diagram.specs.declared.scene.Arrow.{Arrow}
use Rattle.lists.proofs.Members.{in-kept, in-map, kept-in, map-in, none-in}
use Rattle.lists.proofs.Pairs.{pairs-append, pairs-map, pairs-weaker}

-- ---- marks

pub marked-is : (marks : List Bool) (k : ℕ) → is_marked marks k ≡ true → IsMarked marks k
marked-is marks k h = go (slice_get marks k) h where
  go : (o : Option Bool) → unwrap_or o false ≡ true → o ≡ Some true
  go None h = cc h
  go (Some b) h = ap Some h

pub is-marked : (marks : List Bool) (k : ℕ) → IsMarked marks k → is_marked marks k ≡ true
is-marked marks k h = ap (λ o. unwrap_or o false) h

pub is-unmarked : (marks : List Bool) (k : ℕ) → ¬ IsMarked marks k → is_marked marks k ≡ false
is-unmarked marks k bare = elim (cases_Bool (is_marked marks k)) [
  | inl marked ↦ absurd (bare (marked-is marks k marked))
  | inr without ↦ without
]

-- ---- one target more

pub arrows-put : (marks : List Bool) (node : ℕ) (targets : List ℕ) (i target : ℕ) (old so longer : List Arrow) → i < length targets → target ≡ get_or targets i target
    → is_marked marks target ≡ true → so ≡ old ++ arrows_to marks node (take i targets) → longer ≡ so ++ record { from = node; to = target } ∷ []
    → longer ≡ old ++ arrows_to marks node (take (i + 1) targets)
arrows-put marks node targets i target old so longer low is marked are long =
    let to : ℕ → Arrow = λ t. record { from = node; to = t } in
    let front : List Arrow = arrows_to marks node (take i targets) in
    let one : filter (is_marked marks) (target ∷ []) ≡ target ∷ [] = rw marked refl in
    let next : arrows_to marks node (take (i + 1) targets) ≡ front ++ record { from = node; to = target } ∷ [] =
    ap (λ (ts : List ℕ). arrows_to marks node ts) (take_more targets i target low ∙ ap (λ m. take i targets ++ m ∷ []) (sym is))
    ∙ ap (map to) (filter-append (is_marked marks) (take i targets) (target ∷ []) ∙ ap (λ (ts : List ℕ). filter (is_marked marks) (take i targets) ++ ts) one)
    ∙ map-append to (filter (is_marked marks) (take i targets)) (target ∷ []) in
    long ∙ ap (λ (es : List Arrow). es ++ record { from = node; to = target } ∷ []) are ∙ append_assoc old front (record { from = node; to = target } ∷ []) ∙ ap (λ (es : List Arrow). old ++ es) (sym next)

pub arrows-pass : (marks : List Bool) (node : ℕ) (targets : List ℕ) (i target : ℕ) (old so : List Arrow) → i < length targets → target ≡ get_or targets i target
    → is_marked marks target ≡ false → so ≡ old ++ arrows_to marks node (take i targets) → so ≡ old ++ arrows_to marks node (take (i + 1) targets)
arrows-pass marks node targets i target old so low is bare are =
    let to : ℕ → Arrow = λ t. record { from = node; to = t } in
    let none : filter (is_marked marks) (target ∷ []) ≡ [] = rw bare refl in
    let next : arrows_to marks node (take (i + 1) targets) ≡ arrows_to marks node (take i targets) =
    ap (λ (ts : List ℕ). arrows_to marks node ts) (take_more targets i target low ∙ ap (λ m. take i targets ++ m ∷ []) (sym is))
    ∙ ap (map to) (filter-append (is_marked marks) (take i targets) (target ∷ []) ∙ ap (λ (ts : List ℕ). filter (is_marked marks) (take i targets) ++ ts) none ∙ append-nil (filter (is_marked marks) (take i targets))) in
    are ∙ ap (λ (es : List Arrow). old ++ es) (sym next)

-- ---- one node more

-- the arrows from a node to targets with marks
to-cases : (marks : List Bool) (node : ℕ) (targets : List ℕ) (a b : ℕ) → Contains (arrows_to marks node targets) (record { from = a; to = b })
    → (node ≡ a) × Contains targets b × (is_marked marks b ≡ true)
to-cases marks node targets a b h =
    let (target, among, is) = map-in (λ (t : ℕ). let e : Arrow = record { from = node; to = t } in e) (filter (is_marked marks) targets) (record { from = a; to = b }) h in
    let same : target ≡ b = ap (λ (e : Arrow). e.to) is in
    let (there, marked) = kept-in (is_marked marks) targets b (subst (λ t. Contains (filter (is_marked marks) targets) t) same among) in
    (ap (λ (e : Arrow). e.from) is, there, marked)

pub node-put : (graph : GraphData) (marks : List Bool) (node : ℕ) (targets : List ℕ) (arrows longer : List Arrow) → length marks ≡ length graph.packages
    → IsMarked marks node → IsPlaces (Contains (needs graph node)) (length graph.packages) targets → longer ≡ arrows ++ arrows_to marks node targets
    → AreArrows graph marks node arrows → AreArrows graph marks (node + 1) longer
node-put graph marks node targets arrows longer count marked places long h = subst (AreArrows graph marks (node + 1)) (sym long) (record {
  listed = λ a b. (to a b, from a b);
  in_order = pairs-append ComesBefore arrows (arrows_to marks node targets) h.in_order rising across;
}) where
  to : (a b : ℕ) → Contains (arrows ++ arrows_to marks node targets) (record { from = a; to = b }) → (a < node + 1) × IsMarked marks a × IsMarked marks b × Contains (needs graph a) b
  to a b c = elim (Contains-append_cases arrows (arrows_to marks node targets) (record { from = a; to = b }) c) [
    | inl old ↦ let (low, marked_a, marked_b, leads) = (h.listed a b).0 old in (omega (arith, low), marked_a, marked_b, leads)
    | inr put ↦
        let (is, among, seen) = to-cases marks node targets a b put in (
          omega (arith, is),
          subst (IsMarked marks) is marked,
          marked-is marks b seen,
          subst (λ n. Contains (needs graph n) b) is ((places.listed b).0 among).1,
        )
  ]

  from : (a b : ℕ) → (a < node + 1) × IsMarked marks a × IsMarked marks b × Contains (needs graph a) b → Contains (arrows ++ arrows_to marks node targets) (record { from = a; to = b })
  from a b (low, marked_a, marked_b, leads) = elim (cases_eq a node) [
    | inl same ↦
        let within : b < length graph.packages = let w = slice_get_within marks b true marked_b in omega (arith, w, count) in
        let among : Contains targets b = (places.listed b).1 (within, subst (λ n. Contains (needs graph n) b) same leads) in
        let here : Contains (arrows_to marks node targets) (record { from = node; to = b }) =
        in-map (λ (t : ℕ). let e : Arrow = record { from = node; to = t } in e) (filter (is_marked marks) targets) b (in-kept (is_marked marks) targets b among (is-marked marks b marked_b)) in
        Contains-append_right arrows (arrows_to marks node targets) (record { from = a; to = b })
        (subst (λ n. let e : Arrow = record { from = n; to = b } in Contains (arrows_to marks node targets) e) (sym same) here)
    | inr other ↦
        Contains-append_left arrows (arrows_to marks node targets) (record { from = a; to = b })
        ((h.listed a b).1 (omega (arith, low, other), marked_a, marked_b, leads))
  ]

  rising : AllPairs ComesBefore (arrows_to marks node targets)
  rising =
      pairs-map ComesBefore (λ (t : ℕ). let e : Arrow = record { from = node; to = t } in e) (filter (is_marked marks) targets)
      (pairs-weaker (λ (a b : ℕ). a < b) (λ (a b : ℕ). let e : Arrow = record { from = node; to = a } in let f : Arrow = record { from = node; to = b } in ComesBefore e f) (filter (is_marked marks) targets) (λ a b lt. inr (refl, lt))
      (AllPairs-filter (λ (a b : ℕ). a < b) (is_marked marks) targets (AllPairs-from_increasing targets places.ascending)))

  across : (e f : Arrow) → Contains arrows e → Contains (arrows_to marks node targets) f → ComesBefore e f
  across e f old new =
      let low = ((h.listed e.from e.to).0 old).0 in
      let is = (to-cases marks node targets f.from f.to new).0 in
      inl (omega (arith, low, is))

pub node-pass : (graph : GraphData) (marks : List Bool) (node : ℕ) (arrows : List Arrow) → ¬ IsMarked marks node → AreArrows graph marks node arrows → AreArrows graph marks (node + 1) arrows
node-pass graph marks node arrows bare h = record {
  listed = λ a b. (
    λ c. let (low, marked_a, marked_b, leads) = (h.listed a b).0 c in (omega (arith, low), marked_a, marked_b, leads),
    λ r. elim (cases_eq a node) [
      | inl same ↦ absurd (bare (subst (IsMarked marks) same r.1))
      | inr other ↦ (h.listed a b).1 ((let low = r.0 in omega (arith, low, other)), r.1, r.2, r.3)
    ],
  );
  in_order = h.in_order;
}

pub no-arrows : (graph : GraphData) (marks : List Bool) → AreArrows graph marks 0 []
no-arrows graph marks = record {
  listed = λ a b. (λ c. absurd (none-in (record { from = a; to = b }) c), λ r. absurd (let low = r.0 in omega (arith, low)));
  in_order = λ i j d lt low. absurd (omega (arith, low));
}

-- ---- the whole

pub edges-among : (graph : GraphData) (marks : List Bool) (nodes : List ℕ) (arrows : List Arrow) → length marks ≡ length graph.packages
    → IsPlaces (IsMarked marks) (length marks) nodes → AreArrows graph marks (length graph.packages) arrows → AreEdgesAmong graph nodes arrows
edges-among graph marks nodes arrows count places h = record {
  listed = λ a b. (
    λ c. let (low, marked_a, marked_b, leads) = (h.listed a b).0 c in
        ((places.listed a).1 (slice_get_within marks a true marked_a, marked_a), (places.listed b).1 (slice_get_within marks b true marked_b, marked_b), leads),
    λ r.
        let (low, marked_a) = (places.listed a).0 r.0 in
        let (high, marked_b) = (places.listed b).0 r.1 in
        (h.listed a b).1 (omega (arith, low, count), marked_a, marked_b, r.2),
  );
  in_order = h.in_order;
}
