-- How a search counts the steps of nodes.
use Rattle.std.proofs.Common.{◌≡◌, ◌<◌, ◌≤◌, ◌+◌, ◌⊎◌, inl, inr, ℕ, zero, suc, true, false, List, [], ◌∷◌, ◌++◌, length, get_or, replicate, set, slice_get, is_some, take, append-nil, Option, Some, None, refl, sym, ap, subst, ◌∙◌, arith, length-append}
use Rattle.std.specs.List.{Contains}
use Rattle.std.proofs.lemmas.List.Elements.{Contains-append_left, Contains-push, Contains-push_cases}
use Rattle.std.proofs.lemmas.Bool.{cases_eq}
use Rattle.std.proofs.lemmas.Option.{get_or_from_slice_get, same_Some, slice_get_within}
use Rattle.std.proofs.lemmas.List.{get_or-replicate, length-replicate, take_all, take_more}
use Rattle.std.proofs.Math.ListN.{length-set}
use Rattle.cargo_lock_graph.specs.Drawing.{is_one_of}
use Rattle.cargo_lock_graph.specs.Edges.{Edge, GraphData, edges_at}
use Rattle.cargo_lock_graph.specs.declared.graph.EdgeDirection.TheVariants.{Incoming}
use Rattle.cargo_lock_graph.specs.Paths.{IsPath}
use Rattle.lists.proofs.Members.{none-in, slice_get-set_other, slice_get-set_same}
use Rattle.cargo_lock_query.specs.Chains.{needs}
use Rattle.cargo_lock_query.specs.Steps.{AreStepsTo, HasCounted, HasSteps, IsStepSearch, Met, NeedsOneOf, none_newest, uncounted}
use Rattle.cargo_lock_query.proofs.Needing.{Starts, edge-needer, needer-edge}

-- ---- counts

pub uncounted-set : (steps : List (Option ℕ)) (place n : ℕ) → slice_get steps place ≡ Some None
    → uncounted steps ≡ suc (uncounted (set steps place (Some n)))
uncounted-set [] place n h = cc h
uncounted-set (None ∷ steps) zero n h = refl
uncounted-set (Some m ∷ steps) zero n h = let e : Some m ≡ None = same_Some (Some m) None h in cc e
uncounted-set (None ∷ steps) (suc place) n h = ap suc (uncounted-set steps place n h)
uncounted-set (Some m ∷ steps) (suc place) n h = uncounted-set steps place n h

pub uncounted-none : (n : ℕ) → uncounted (replicate n None) ≡ n
uncounted-none zero = refl
uncounted-none (suc n) = ap suc (uncounted-none n)

pub none-counted : (count k n : ℕ) → ¬ HasSteps (replicate count None) k n
none-counted count k n h =
    let low = slice_get_within (replicate count None) k (Some n) h in
    let long = length-replicate {A = Option ℕ} count None in
    let e : None ≡ Some n = sym (get_or-replicate count k None None (omega (arith, low, long))) ∙ get_or_from_slice_get (replicate count None) k (Some n) None h in
    cc e

-- a node has one count
pub one-count : (steps : List (Option ℕ)) (k n m : ℕ) → HasSteps steps k n → HasSteps steps k m → n ≡ m
one-count steps k n m h g = same_Some n m (same_Some (Some n) (Some m) (sym h ∙ g))

pub none-of : {X : Type 0} (o : Option X) → is_some o ≡ false → o ≡ None
none-of None h = refl
none-of (Some x) h = cc h

pub some-of : {X : Type 0} (o : Option X) → is_some o ≡ true → (x : X) × (o ≡ Some x)
some-of None h = cc h
some-of (Some x) h = (x, refl)

-- ---- one node

-- a node without a count gets one, and is newest
pub counted-new : (old new : Met) (place n : ℕ) → slice_get old.steps place ≡ Some None
    → new.steps ≡ set old.steps place (Some n) → new.newest ≡ old.newest ++ place ∷ []
    → HasCounted (λ k. k ≡ place) n old new
counted-new old new place n bare steps newest =
    let ss : List (Option ℕ) = old.steps in
    let ws : List ℕ = old.newest in
    let low = slice_get_within ss place None bare in
    let here : HasSteps new.steps place n = subst (λ (xs : List (Option ℕ)). HasSteps xs place n) (sym steps) (slice_get-set_same ss place (Some n) low) in
    let put : (k : ℕ) → Contains (ws ++ place ∷ []) k → Contains new.newest k = λ k h. subst (λ (xs : List ℕ). Contains xs k) (sym newest) h in
    record {
      count = ap length steps ∙ length-set ss place (Some n);
      kept = λ k m h. elim (cases_eq k place) [
        | inl same ↦ absurd (let e : Some m ≡ None = same_Some (Some m) None (sym h ∙ ap (slice_get ss) same ∙ bare) in cc e)
        | inr other ↦ ap (λ (xs : List (Option ℕ)). slice_get xs k) steps ∙ slice_get-set_other ss place k (Some n) other ∙ h
      ];
      all = λ k same. (n, subst (λ i. HasSteps new.steps i n) (sym same) here);
      waits = λ k h. put k (Contains-append_left ws (place ∷ []) k h);
      added = λ k m h. elim (cases_eq k place) [
        | inl same ↦ inr (
          same,
          one-count new.steps place m n (subst (λ i. HasSteps new.steps i m) same h) here,
          subst (λ i. Contains new.newest i) (sym same) (put place (Contains-push ws place)),
        )
        | inr other ↦ inl (sym (slice_get-set_other ss place k (Some n) other) ∙ ap (λ (xs : List (Option ℕ)). slice_get xs k) (sym steps) ∙ h)
      ];
      counted = λ k h. elim (Contains-push_cases ws place k (subst (λ (xs : List ℕ). Contains xs k) newest h)) [
        | inl before ↦ inl before
        | inr same ↦ inr (subst (λ i. HasSteps new.steps i n) same here)
      ];
      measure =
          let fewer = uncounted-set ss place n bare in
          let same = ap uncounted steps in
          let more = ap length newest in
          let long = length-append ws (place ∷ []) in
          omega (arith, fewer, same, more, long);
    }

-- a node with a count keeps it
pub counted-again : (met : Met) (place n m : ℕ) → HasSteps met.steps place m → HasCounted (λ k. k ≡ place) n met met
counted-again met place n m has = record {
  count = refl;
  kept = λ k l h. h;
  all = λ k same. (m, subst (λ i. HasSteps met.steps i m) (sym same) has);
  waits = λ k h. h;
  added = λ k l h. inl h;
  counted = λ k h. inl h;
  measure = refl;
}

-- ---- several

pub counted-none : (P : ℕ → Type 0) (n : ℕ) (met : Met) → ((k : ℕ) → ¬ P k) → HasCounted P n met met
counted-none P n met none = record {
  count = refl;
  kept = λ k m h. h;
  all = λ k p. absurd (none k p);
  waits = λ k h. h;
  added = λ k m h. inl h;
  counted = λ k h. inl h;
  measure = refl;
}

-- one step and then another
pub counted-both : (P Q R : ℕ → Type 0) (n : ℕ) (a b c : Met) → ((k : ℕ) → R k → P k ⊎ Q k) → ((k : ℕ) → P k → R k) → ((k : ℕ) → Q k → R k)
    → HasCounted P n a b → HasCounted Q n b c → HasCounted R n a c
counted-both P Q R n a b c cases first second f g = record {
  count = g.count ∙ f.count;
  kept = λ k m h. g.kept k m (f.kept k m h);
  all = λ k r. elim (cases k r) [
    | inl p ↦ let s = f.all k p in (s.0, g.kept k s.0 s.1)
    | inr q ↦ g.all k q
  ];
  waits = λ k h. g.waits k (f.waits k h);
  added = λ k m h. elim (g.added k m h) [
    | inl before ↦ elim (f.added k m before) [
      | inl old ↦ inl old
      | inr new ↦ inr (first k new.0, new.1, g.waits k new.2)
    ]
    | inr new ↦ inr (second k new.0, new.1, new.2)
  ];
  counted = λ k h. elim (g.counted k h) [
    | inl before ↦ elim (f.counted k before) [
      | inl old ↦ inl old
      | inr new ↦ inr (g.kept k n new)
    ]
    | inr new ↦ inr new
  ];
  measure = g.measure ∙ f.measure;
}

-- the same step, by another predicate that holds at the same places
pub counted-alike : (P Q : ℕ → Type 0) (n : ℕ) (a b : Met) → ((k : ℕ) → P k → Q k) → ((k : ℕ) → Q k → P k) → HasCounted P n a b → HasCounted Q n a b
counted-alike P Q n a b to from f = record {
  count = f.count;
  kept = f.kept;
  all = λ k q. f.all k (from k q);
  waits = f.waits;
  added = λ k m h. elim (f.added k m h) [
    | inl old ↦ inl old
    | inr new ↦ inr (to k new.0, new.1, new.2)
  ];
  counted = f.counted;
  measure = f.measure;
}

-- ---- the edges that enter a node

pub starts-none : (n : ℕ) (met : Met) → HasCounted (Starts []) n met met
starts-none n met = counted-none (Starts []) n met (λ k h. none-in h.0 h.1)

pub starts-next : (front : List Edge) (e : Edge) (node n : ℕ) (a b c : Met) → node ≡ e.from
    → HasCounted (Starts front) n a b → HasCounted (λ k. k ≡ node) n b c → HasCounted (Starts (front ++ e ∷ [])) n a c
starts-next front e node n a b c is f g =
    counted-both (Starts front) (λ k. k ≡ node) (Starts (front ++ e ∷ [])) n a b c
    (λ k h. elim (Contains-push_cases front e h.0 h.1) [
      | inl before ↦ inl (h.0, before, h.2)
      | inr here ↦ inr (sym h.2 ∙ ap (λ (d : Edge). d.from) (sym here) ∙ sym is)
    ])
    (λ k h. (h.0, Contains-append_left front (e ∷ []) h.0 h.1, h.2))
    (λ k same. (e, Contains-push front e, sym is ∙ sym same))
    f g

pub starts-all : (graph : GraphData) (node : ℕ) (front left : List Edge) (n : ℕ) (a b : Met) → left ≡ [] → front ++ left ≡ edges_at Incoming graph.edges node
    → HasCounted (Starts front) n a b → HasCounted (λ k. is_one_of node (needs graph k) ≡ true) n a b
starts-all graph node front left n a b none joined f =
    let whole : front ≡ edges_at Incoming graph.edges node = sym (append-nil front) ∙ ap (λ (es : List Edge). front ++ es) (sym none) ∙ joined in
    counted-alike (Starts front) (λ k. is_one_of node (needs graph k) ≡ true) n a b
    (λ k h. subst (λ i. is_one_of node (needs graph i) ≡ true) h.2 (edge-needer graph node h.0 (subst (λ (es : List Edge). Contains es h.0) whole h.1)))
    (λ k h. let (e, among, from) = needer-edge graph k node h in (e, subst (λ (es : List Edge). Contains es e) (sym whole) among, from))
    f

-- ---- the nodes that need the newest

pub nodes-next : (graph : GraphData) (nodes : List ℕ) (i n node : ℕ) (a b c : Met) → i < length nodes → node ≡ get_or nodes i node
    → HasCounted (NeedsOneOf graph (take i nodes)) n a b → HasCounted (λ k. is_one_of node (needs graph k) ≡ true) n b c
    → HasCounted (NeedsOneOf graph (take (i + 1) nodes)) n a c
nodes-next graph nodes i n node a b c low is f g =
    let more : take (i + 1) nodes ≡ take i nodes ++ node ∷ [] = take_more nodes i node low ∙ ap (λ m. take i nodes ++ m ∷ []) (sym is) in
    let to : (m : ℕ) → Contains (take i nodes ++ node ∷ []) m → Contains (take (i + 1) nodes) m = λ m h. subst (λ (xs : List ℕ). Contains xs m) (sym more) h in
    counted-both (NeedsOneOf graph (take i nodes)) (λ k. is_one_of node (needs graph k) ≡ true) (NeedsOneOf graph (take (i + 1) nodes)) n a b c
    (λ k h. elim (Contains-push_cases (take i nodes) node h.0 (subst (λ (xs : List ℕ). Contains xs h.0) more h.1)) [
      | inl before ↦ inl (h.0, before, h.2)
      | inr here ↦ inr (subst (λ m. is_one_of m (needs graph k) ≡ true) (sym here) h.2)
    ])
    (λ k h. (h.0, to h.0 (Contains-append_left (take i nodes) (node ∷ []) h.0 h.1), h.2))
    (λ k h. (node, to node (Contains-push (take i nodes) node), h))
    f g

pub nodes-none : (graph : GraphData) (nodes : List ℕ) (n : ℕ) (met : Met) → HasCounted (NeedsOneOf graph (take 0 nodes)) n met met
nodes-none graph nodes n met = counted-none (NeedsOneOf graph []) n met (λ k h. none-in h.0 h.1)

pub nodes-all : (graph : GraphData) (nodes : List ℕ) (i n : ℕ) (a b : Met) → length nodes ≤ i
    → HasCounted (NeedsOneOf graph (take i nodes)) n a b → HasCounted (NeedsOneOf graph nodes) n a b
nodes-all graph nodes i n a b end f = subst (λ (xs : List ℕ). HasCounted (NeedsOneOf graph xs) n a b) (take_all i nodes end) f

-- ---- the search

-- the one node is counted, where no other is
pub search-start : (graph : GraphData) (to : ℕ) (a b : Met) → to < length graph.packages
    → a.steps ≡ replicate (length graph.packages) None → a.newest ≡ []
    → HasCounted (λ k. k ≡ to) 0 a b → IsStepSearch graph to 0 b
search-start graph to a b low bare empty f =
    let count = length graph.packages in
    let long : length a.steps ≡ count = ap length bare ∙ length-replicate count None in
    let new : (k n : ℕ) → HasSteps b.steps k n → (k ≡ to) × (n ≡ 0) × Contains b.newest k = λ k n h. elim (f.added k n h) [
      | inl old ↦ absurd (none-counted count k n (subst (λ (xs : List (Option ℕ)). HasSteps xs k n) bare old))
      | inr new ↦ new
    ] in
    let s = f.all to refl in
    let has : HasSteps b.steps to 0 = subst (λ n. HasSteps b.steps to n) (new to s.0 s.1).1 s.1 in
    record {
      count = f.count ∙ long;
      sound = λ k n h. let (same, is, in') = new k n h in ([], same, sym is);
      start = has;
      low = λ k n h. let (same, is, in') = new k n h in omega (arith, is);
      newest = λ k h. (new k 0 h).2;
      counted = λ k h. elim (f.counted k h) [
        | inl old ↦ absurd (none-in k (subst (λ (xs : List ℕ). Contains xs k) empty old))
        | inr has ↦ has
      ];
      closed = λ k l n edge h less. absurd (omega (arith, less));
      room =
          let all = uncounted-none count in
          let same = ap uncounted bare in
          let none = ap length empty in
          let sum = f.measure in
          let fixed = f.count in
          omega (arith, all, same, none, sum, fixed, long);
    }

-- what needs one of the newest is counted
pub search-next : (graph : GraphData) (to depth : ℕ) (a b : Met) → 0 < length a.newest → IsStepSearch graph to depth a
    → HasCounted (NeedsOneOf graph a.newest) (depth + 1) (none_newest a) b → IsStepSearch graph to (depth + 1) b
search-next graph to depth a b some h f =
    let low : (k n : ℕ) → HasSteps b.steps k n → n ≤ depth + 1 = λ k n s. elim (f.added k n s) [
      | inl old ↦ let less = h.low k n old in omega (arith, less)
      | inr new ↦ let is = new.1 in omega (arith, is)
    ] in record {
      count = f.count ∙ h.count;
      sound = λ k n s. elim (f.added k n s) [
        | inl old ↦ h.sound k n old
        | inr new ↦
            let (node, among, edge) = new.0 in
            let (path, leads, long) = h.sound node depth (h.counted node among) in
            (node ∷ path, (edge, leads), let is = new.1 in omega (arith, is, long))
      ];
      start = f.kept to 0 h.start;
      low = low;
      newest = λ k s. elim (f.added k (depth + 1) s) [
        | inl old ↦ absurd (let less = h.low k (depth + 1) old in omega (arith, less))
        | inr new ↦ new.2
      ];
      counted = λ k among. elim (f.counted k among) [
        | inl old ↦ absurd (none-in k old)
        | inr has ↦ has
      ];
      closed = λ k l n edge s less. elim (f.added l n s) [
        | inl old ↦ elim (cases_eq n depth) [
          | inl same ↦
              let there : Contains a.newest l = h.newest l (subst (λ i. HasSteps a.steps l i) same old) in
              let got = f.all k (l, there, edge) in
              (got.0, got.1, let most = low k got.0 got.1 in omega (arith, most, same))
          | inr other ↦
              let most = h.low l n old in
              let got = h.closed k l n edge old (omega (arith, most, other)) in
              (got.0, f.kept k got.0 got.1, got.2)
        ]
        | inr new ↦ absurd (let is = new.1 in omega (arith, is, less))
      ];
      room =
          let sum = f.measure in
          let before = h.room in
          let fixed = f.count in
          omega (arith, sum, before, fixed, some);
    }

-- a path leads from no node of fewer steps
path-counted : (graph : GraphData) (to depth : ℕ) (met : Met) → IsStepSearch graph to depth met → met.newest ≡ []
    → (node : ℕ) (path : List ℕ) → IsPath (needs graph) node path to → (n : ℕ) × HasSteps met.steps node n × (n ≤ length path)
path-counted graph to depth met h empty node [] same = (0, subst (λ i. HasSteps met.steps i 0) (sym same) h.start, omega arith)
path-counted graph to depth met h empty node (b ∷ path) leads =
    let (n, has, most) = path-counted graph to depth met h empty b path leads.1 in
    let low = h.low b n has in
    let less : n < depth = elim (cases_eq n depth) [
      | inl same ↦ absurd (none-in b (subst (λ (xs : List ℕ). Contains xs b) empty (h.newest b (subst (λ i. HasSteps met.steps b i) same has))))
      | inr other ↦ omega (arith, low, other)
    ] in
    let (m, has', most') = h.closed node b n leads.0 has less in
    (m, has', omega (arith, most, most'))

pub search-end : (graph : GraphData) (to depth : ℕ) (met : Met) → IsStepSearch graph to depth met → met.newest ≡ [] → AreStepsTo graph to met.steps
search-end graph to depth met h empty = record {
  sound = h.sound;
  least = path-counted graph to depth met h empty;
}
