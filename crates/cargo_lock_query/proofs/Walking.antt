-- How the first of the shortest chains is walked.
use Rattle.std.proofs.Common.{◌≡◌, ◌<◌, ◌≤◌, ◌+◌, inl, inr, ℕ, suc, List, [], ◌∷◌, ◌++◌, length, get_or, take, slice_get, unwrap_or, Option, Some, None, refl, sym, ap, subst, ◌∙◌, arith, append-nil, append_assoc}
use Rattle.std.specs.List.{Contains}
use Rattle.std.proofs.lemmas.Bool.{cases_lt}
use Rattle.std.proofs.lemmas.List.Elements.{Contains-append_left, Contains-push, Contains-push_cases}
use Rattle.std.proofs.lemmas.List.{take_all, take_more}
use Rattle.std.proofs.lemmas.Option.{same_Some}
use Rattle.cargo_lock_graph.specs.Edges.{GraphData}
use Rattle.cargo_lock_graph.specs.Paths.{IsPath}
use Rattle.lists.proofs.Members.{none-in}
use Rattle.cargo_lock_query.specs.Chains.{AreChainsOfEach, IsChainOfNeeds, IsNoWorse, IsShortestChain, IsUnreached, needs}
use Rattle.cargo_lock_query.specs.Steps.{AreNearest, AreStepsTo, HasSteps, IsFirstChain, IsFirstPath, IsNearerOf, IsNearest, IsNoFarther}
use Rattle.cargo_lock_query.specs.declared.chain.Found.{Found}
use Rattle.cargo_lock_query.proofs.Members.{in-one-of, one-of-in}
use Rattle.cargo_lock_query.proofs.Counting.{one-count}

-- ---- the nearest of some nodes

pub no-farther-on : (a b c : Found) → IsNoFarther a b → IsNoFarther b c → IsNoFarther a c
no-farther-on a b c h g = elim h [
  | inl less ↦ elim g [
    | inl more ↦ inl (omega (arith, less, more))
    | inr same ↦ inl (let e = same.0 in omega (arith, less, e))
  ]
  | inr even ↦ elim g [
    | inl more ↦ inl (let e = even.0 in omega (arith, more, e))
    | inr same ↦ inr (even.0 ∙ same.0, let low = even.1 in let high = same.1 in omega (arith, low, high))
  ]
]

pub nearest-none : (steps : List (Option ℕ)) (nodes : List ℕ) → AreNearest steps (take 0 nodes) None
nearest-none steps nodes = λ node n h. absurd (none-in node h)

more-taken : (nodes : List ℕ) (i node : ℕ) → i < length nodes → node ≡ get_or nodes i node → take (i + 1) nodes ≡ take i nodes ++ node ∷ []
more-taken nodes i node low is = take_more nodes i node low ∙ ap (λ m. take i nodes ++ m ∷ []) (sym is)

-- a node without a count
pub no-steps : (steps : List (Option ℕ)) (node n : ℕ) → None ≡ unwrap_or (slice_get steps node) None → ¬ HasSteps steps node n
no-steps steps node n none h = let e : None ≡ Some n = none ∙ ap (λ o. unwrap_or o None) h in cc e

push-pass : (steps : List (Option ℕ)) (nodes : List ℕ) (node : ℕ) (best : Option Found) → ((n : ℕ) → ¬ HasSteps steps node n)
    → AreNearest steps nodes best → AreNearest steps (nodes ++ node ∷ []) best
push-pass steps nodes node None none h = λ k n among has. elim (Contains-push_cases nodes node k among) [
  | inl before ↦ h k n before has
  | inr here ↦ none n (subst (λ i. HasSteps steps i n) (sym here) has)
]
push-pass steps nodes node (Some found) none h = record {
  among = Contains-append_left nodes (node ∷ []) found.node h.among;
  counted = h.counted;
  least = λ k n among has. elim (Contains-push_cases nodes node k among) [
    | inl before ↦ h.least k n before has
    | inr here ↦ absurd (none n (subst (λ i. HasSteps steps i n) (sym here) has))
  ];
}

pub nearest-pass : (steps : List (Option ℕ)) (nodes : List ℕ) (i node : ℕ) (best : Option Found) → i < length nodes → node ≡ get_or nodes i node
    → None ≡ unwrap_or (slice_get steps node) None → AreNearest steps (take i nodes) best → AreNearest steps (take (i + 1) nodes) best
nearest-pass steps nodes i node best low is none h =
    subst (λ (ns : List ℕ). AreNearest steps ns best) (sym (more-taken nodes i node low is))
    (push-pass steps (take i nodes) node best (λ n. no-steps steps node n none) h)

pub has-steps : (steps : List (Option ℕ)) (node n : ℕ) → Some n ≡ unwrap_or (slice_get steps node) None → HasSteps steps node n
has-steps steps node n h = go (slice_get steps node) h where
  go : (o : Option (Option ℕ)) → Some n ≡ unwrap_or o None → o ≡ Some (Some n)
  go None h = cc h
  go (Some x) h = ap Some (sym h)

same-found : (one other : Found) (k n : ℕ) → other.node ≡ k → other.steps ≡ n → IsNoFarther one other → IsNoFarther one (record { steps = n; node = k })
same-found one other k n node steps h =
    subst (λ i. IsNoFarther one (record { steps = i; node = k })) steps
    (subst (λ i. IsNoFarther one (record { steps = other.steps; node = i })) node h)

push-next : (steps : List (Option ℕ)) (nodes : List ℕ) (best : Option Found) (new nearer : Found) → HasSteps steps new.node new.steps
    → IsNearerOf best new nearer → AreNearest steps nodes best → AreNearest steps (nodes ++ new.node ∷ []) (Some nearer)
push-next steps nodes None new nearer has of h = elim of.either [
  | inl none ↦ absurd (let e : None ≡ Some nearer = none in cc e)
  | inr same ↦ record {
    among = subst (λ (f : Found). Contains (nodes ++ new.node ∷ []) f.node) same (Contains-push nodes new.node);
    counted = subst (λ (f : Found). HasSteps steps f.node f.steps) same has;
    least = λ k n among other. elim (Contains-push_cases nodes new.node k among) [
      | inl before ↦ absurd (h k n before other)
      | inr here ↦ same-found nearer new k n here (one-count steps k new.steps n (subst (λ i. HasSteps steps i new.steps) here has) other) of.second
    ];
  }
]
push-next steps nodes (Some best) new nearer has of h =
    let all = nodes ++ new.node ∷ [] in
    let long : Contains all best.node = Contains-append_left nodes (new.node ∷ []) best.node h.among in
    record {
      among = elim of.either [
        | inl same ↦ subst (λ (f : Found). Contains all f.node) (same_Some best nearer same) long
        | inr same ↦ subst (λ (f : Found). Contains all f.node) same (Contains-push nodes new.node)
      ];
      counted = elim of.either [
        | inl same ↦ subst (λ (f : Found). HasSteps steps f.node f.steps) (same_Some best nearer same) h.counted
        | inr same ↦ subst (λ (f : Found). HasSteps steps f.node f.steps) same has
      ];
      least = λ k n among other. elim (Contains-push_cases nodes new.node k among) [
        | inl before ↦ no-farther-on nearer best (record { steps = n; node = k }) of.first (h.least k n before other)
        | inr here ↦ same-found nearer new k n here (one-count steps k new.steps n (subst (λ i. HasSteps steps i new.steps) here has) other) of.second
      ];
    }

pub nearest-next : (steps : List (Option ℕ)) (nodes : List ℕ) (i node n : ℕ) (best : Option Found) (nearer : Found) → i < length nodes → node ≡ get_or nodes i node
    → Some n ≡ unwrap_or (slice_get steps node) None → IsNearerOf best (record { steps = n; node = node }) nearer
    → AreNearest steps (take i nodes) best → AreNearest steps (take (i + 1) nodes) (Some nearer)
nearest-next steps nodes i node n best nearer low is some of h =
    subst (λ (ns : List ℕ). AreNearest steps ns (Some nearer)) (sym (more-taken nodes i node low is))
    (push-next steps (take i nodes) best (record { steps = n; node = node }) nearer (has-steps steps node n some) of h)

pub nearest-all : (steps : List (Option ℕ)) (nodes : List ℕ) (i : ℕ) (best : Option Found) → length nodes ≤ i → AreNearest steps (take i nodes) best → AreNearest steps nodes best
nearest-all steps nodes i best end h = subst (λ (ns : List ℕ). AreNearest steps ns best) (take_all i nodes end) h

-- ---- one step on

-- a node from which a path leads elsewhere needs a node of fewer steps
pub needs-nearer : (graph : GraphData) (to : ℕ) (steps : List (Option ℕ)) (node n : ℕ) → AreStepsTo graph to steps → HasSteps steps node n → ¬ (node ≡ to)
    → (b : ℕ) × (m : ℕ) × Contains (needs graph node) b × HasSteps steps b m × (m < n)
needs-nearer graph to steps node n are has off =
    let (path, leads, long) = are.sound node n has in go path leads long where
      go : (path : List ℕ) → IsPath (needs graph) node path to → length path ≡ n → (b : ℕ) × (m : ℕ) × Contains (needs graph node) b × HasSteps steps b m × (m < n)
      go [] leads long = absurd (off leads)
      go (b ∷ path) leads long =
          let (m, counted, most) = are.least b path leads.1 in
          (b, m, one-of-in b (needs graph node) leads.0, counted, omega (arith, most, long))

pub nearest-nearer : (graph : GraphData) (to : ℕ) (steps : List (Option ℕ)) (last next : Found) → AreStepsTo graph to steps → HasSteps steps last.node last.steps
    → ¬ (last.node ≡ to) → IsNearest steps (needs graph last.node) next → next.steps < last.steps
nearest-nearer graph to steps last next are has off near =
    let (b, m, among, counted, less) = needs-nearer graph to steps last.node last.steps are has off in
    elim (near.least b m among counted) [
      | inl fewer ↦ omega (arith, fewer, less)
      | inr even ↦ let e = even.0 in omega (arith, e, less)
    ]

pub some-nearest : (graph : GraphData) (to : ℕ) (steps : List (Option ℕ)) (last : Found) → AreStepsTo graph to steps → HasSteps steps last.node last.steps
    → ¬ (last.node ≡ to) → AreNearest steps (needs graph last.node) None → ⊥
some-nearest graph to steps last are has off none =
    let (b, m, among, counted, less) = needs-nearer graph to steps last.node last.steps are has off in none b m among counted

-- a best path has as many nodes as the node has steps
best-long : (graph : GraphData) (to : ℕ) (steps : List (Option ℕ)) (node n : ℕ) (path : List ℕ) → AreStepsTo graph to steps → HasSteps steps node n
    → IsFirstPath graph to node path → length path ≡ n
best-long graph to steps node n path are has h =
    let (way, leads, long) = are.sound node n has in
    let (m, counted, most) = are.least node path h.leads in
    let same = one-count steps node n m has counted in
    elim (h.best way leads) [
      | inl less ↦ omega (arith, less, long, most, same)
      | inr even ↦ let e = even.0 in e ∙ long
    ]

-- a node before a best path from the nearest of those that it needs
pub first-next : (graph : GraphData) (to : ℕ) (steps : List (Option ℕ)) (last next : Found) (rest : List ℕ) → AreStepsTo graph to steps
    → ¬ (last.node ≡ to) → IsNearest steps (needs graph last.node) next → IsFirstPath graph to next.node rest → IsFirstPath graph to last.node (next.node ∷ rest)
first-next graph to steps last next rest are off near h = record {
  leads = (in-one-of next.node (needs graph last.node) near.among, h.leads);
  best = best;
} where
  long : length rest ≡ next.steps
  long = best-long graph to steps next.node next.steps rest are near.counted h

  best : (other : List ℕ) → IsPath (needs graph) last.node other to → IsNoWorse (next.node ∷ rest) other
  best [] same = absurd (off same)
  best (c ∷ cs) leads =
      let (m, counted, most) = are.least c cs leads.1 in
      elim (near.least c m (one-of-in c (needs graph last.node) leads.0) counted) [
        | inl fewer ↦ inl (let l = long in omega (arith, fewer, most, l))
        | inr even ↦
            let l = long in
            let e = even.0 in
            let low = even.1 in
            elim (cases_lt m (length cs)) [
              | inl shorter ↦ inl (omega (arith, shorter, e, l))
              | inr whole ↦ elim (cases_lt next.node c) [
                | inl before ↦ inr (omega (arith, whole, most, e, l), inl before)
                | inr past ↦
                    let same : next.node ≡ c = omega (arith, low, past) in
                    elim (h.best cs (subst (λ i. IsPath (needs graph) i cs to) (sym same) leads.1)) [
                      | inl less ↦ inl (omega (arith, less))
                      | inr alike ↦ inr (ap suc alike.0, inr (same, alike.1))
                    ]
              ]
            ]
      ]

-- ---- the walk

-- the chain so far ends at the last node, and a best path from there makes one from the root
pub record IsWalk (graph : GraphData) (steps : List (Option ℕ)) (to root : ℕ) (last : Found) (chain : List ℕ) : Type 0 where
  pub front : List ℕ
  pub is : chain ≡ root ∷ front
  pub counted : HasSteps steps last.node last.steps
  pub on : (rest : List ℕ) → IsFirstPath graph to last.node rest → IsFirstPath graph to root (front ++ rest)

pub walk-start : (graph : GraphData) (steps : List (Option ℕ)) (to : ℕ) (root : Found) (chain : List ℕ) → HasSteps steps root.node root.steps → chain ≡ root.node ∷ []
    → IsWalk graph steps to root.node root chain
walk-start graph steps to root chain has is = record { front = []; is = is; counted = has; on = λ rest h. h }

pub walk-next : (graph : GraphData) (steps : List (Option ℕ)) (to root : ℕ) (last next : Found) (chain longer : List ℕ) → AreStepsTo graph to steps → ¬ (last.node ≡ to)
    → IsNearest steps (needs graph last.node) next → longer ≡ chain ++ next.node ∷ [] → IsWalk graph steps to root last chain → IsWalk graph steps to root next longer
walk-next graph steps to root last next chain longer are off near is h = record {
  front = h.front ++ next.node ∷ [];
  is = is ∙ ap (λ (ns : List ℕ). ns ++ next.node ∷ []) h.is;
  counted = near.counted;
  on = λ rest first. subst (λ (ns : List ℕ). IsFirstPath graph to root ns) (sym (append_assoc h.front (next.node ∷ []) rest))
      (h.on (next.node ∷ rest) (first-next graph to steps last next rest are off near first));
}

pub walk-end : (graph : GraphData) (steps : List (Option ℕ)) (to root : ℕ) (last : Found) (chain : List ℕ) → last.node ≡ to
    → IsWalk graph steps to root last chain → IsFirstChain graph to root chain
walk-end graph steps to root last chain at h = record {
  path = h.front;
  is = h.is;
  first = subst (λ (ns : List ℕ). IsFirstPath graph to root ns) (append-nil h.front) (h.on [] (record { leads = at; best = none-worse }));
} where
  none-worse : (other : List ℕ) → IsPath (needs graph) last.node other to → IsNoWorse [] other
  none-worse [] leads = inr (refl, tt)
  none-worse (b ∷ bs) leads = inl (omega arith)

-- ---- the whole

pub chain-best : (graph : GraphData) (steps : List (Option ℕ)) (to : ℕ) (roots : List ℕ) (root : Found) (chain : List ℕ) → AreStepsTo graph to steps
    → IsNearest steps roots root → IsFirstChain graph to root.node chain → IsShortestChain graph roots to chain
chain-best graph steps to roots root chain are near h =
    subst (λ (ns : List ℕ). IsShortestChain graph roots to ns) (sym h.is) (record { leads = (near.among, h.first.leads); best = best }) where
      long : length h.path ≡ root.steps
      long = best-long graph to steps root.node root.steps h.path are near.counted h.first

      best : (other : List ℕ) → IsChainOfNeeds graph roots to other → IsNoWorse (root.node ∷ h.path) other
      best [] leads = absurd leads
      best (c ∷ cs) leads =
          let (m, counted, most) = are.least c cs leads.1 in
          elim (near.least c m leads.0 counted) [
            | inl fewer ↦ inl (let l = long in omega (arith, fewer, most, l))
            | inr even ↦
                let l = long in
                let e = even.0 in
                let low = even.1 in
                elim (cases_lt m (length cs)) [
                  | inl shorter ↦ inl (omega (arith, shorter, e, l))
                  | inr whole ↦ elim (cases_lt root.node c) [
                    | inl before ↦ inr (omega (arith, whole, most, e, l), inl before)
                    | inr past ↦
                        let same : root.node ≡ c = omega (arith, low, past) in
                        elim (h.first.best cs (subst (λ i. IsPath (needs graph) i cs to) (sym same) leads.1)) [
                          | inl less ↦ inl (omega (arith, less))
                          | inr alike ↦ inr (ap suc alike.0, inr (same, alike.1))
                        ]
                  ]
                ]
          ]

pub none-reached : (graph : GraphData) (steps : List (Option ℕ)) (to : ℕ) (roots : List ℕ) → AreStepsTo graph to steps → AreNearest steps roots None → IsUnreached graph roots to
none-reached graph steps to roots are none [] h = h
none-reached graph steps to roots are none (c ∷ cs) h = let (m, counted, most) = are.least c cs h.1 in none c m h.0 counted

-- ---- each root by itself

each-pass : (graph : GraphData) (to : ℕ) (roots : List ℕ) (root : ℕ) (chains : List (List ℕ)) → IsUnreached graph (root ∷ []) to
    → AreChainsOfEach graph to roots chains → AreChainsOfEach graph to (roots ++ root ∷ []) chains
each-pass graph to [] root chains none are = inl (none, are)
each-pass graph to (r ∷ rs) root chains none are = elim are [
  | inl missed ↦ inl (missed.0, each-pass graph to rs root chains none missed.1)
  | inr found ↦ inr (found.0, found.1, found.2, found.3, each-pass graph to rs root found.1 none found.4)
]

each-next : (graph : GraphData) (to : ℕ) (roots : List ℕ) (root : ℕ) (chains : List (List ℕ)) (chain : List ℕ) → IsShortestChain graph (root ∷ []) to chain
    → AreChainsOfEach graph to roots chains → AreChainsOfEach graph to (roots ++ root ∷ []) (chains ++ chain ∷ [])
each-next graph to [] root chains chain shortest are = inr (chain, [], ap (λ (cs : List (List ℕ)). cs ++ chain ∷ []) are, shortest, refl)
each-next graph to (r ∷ rs) root chains chain shortest are = elim are [
  | inl missed ↦ inl (missed.0, each-next graph to rs root chains chain shortest missed.1)
  | inr found ↦ inr (
    found.0,
    found.1 ++ chain ∷ [],
    ap (λ (cs : List (List ℕ)). cs ++ chain ∷ []) found.2,
    found.3,
    each-next graph to rs root found.1 chain shortest found.4,
  )
]

pub each-missed : (graph : GraphData) (to : ℕ) (steps : List (Option ℕ)) (roots : List ℕ) (i root : ℕ) (chains : List (List ℕ)) → AreStepsTo graph to steps
    → i < length roots → root ≡ get_or roots i root → None ≡ unwrap_or (slice_get steps root) None
    → AreChainsOfEach graph to (take i roots) chains → AreChainsOfEach graph to (take (i + 1) roots) chains
each-missed graph to steps roots i root chains are low is none h =
    let gone : AreNearest steps (root ∷ []) None = push-pass steps [] root None (λ n. no-steps steps root n none) (λ k n among. absurd (none-in k among)) in
    subst (λ (ns : List ℕ). AreChainsOfEach graph to ns chains) (sym (more-taken roots i root low is))
    (each-pass graph to (take i roots) root chains (none-reached graph steps to (root ∷ []) are gone) h)

pub each-found : (graph : GraphData) (to : ℕ) (steps : List (Option ℕ)) (roots : List ℕ) (i root n : ℕ) (chains longer : List (List ℕ)) (chain : List ℕ) → AreStepsTo graph to steps
    → i < length roots → root ≡ get_or roots i root → HasSteps steps root n → IsFirstChain graph to root chain → longer ≡ chains ++ chain ∷ []
    → AreChainsOfEach graph to (take i roots) chains → AreChainsOfEach graph to (take (i + 1) roots) longer
each-found graph to steps roots i root n chains longer chain are low is has first long h =
    let found : Found = record { steps = n; node = root } in
    let of : IsNearerOf None found found = record { either = inr refl; first = tt; second = inr (refl, omega arith) } in
    let near : IsNearest steps (root ∷ []) found = push-next steps [] None found found has of (λ k m among. absurd (none-in k among)) in
    subst (λ (cs : List (List ℕ)). AreChainsOfEach graph to (take (i + 1) roots) cs) (sym long)
    (subst (λ (ns : List ℕ). AreChainsOfEach graph to ns (chains ++ chain ∷ [])) (sym (more-taken roots i root low is))
    (each-next graph to (take i roots) root chains chain (chain-best graph steps to (root ∷ []) found chain are near first) h))

pub each-all : (graph : GraphData) (to : ℕ) (roots : List ℕ) (i : ℕ) (chains : List (List ℕ)) → length roots ≤ i
    → AreChainsOfEach graph to (take i roots) chains → AreChainsOfEach graph to roots chains
each-all graph to roots i chains end h = subst (λ (ns : List ℕ). AreChainsOfEach graph to ns chains) (take_all i roots end) h
