-- How a search finds the first of the shortest chains.
use Rattle.std.proofs.Common.{◌≡◌, ◌∙◌, ◌<◌, ◌≤◌, ◌+◌, ◌⊎◌, inl, inr, ℕ, suc, true, List, [], ◌∷◌, ◌++◌, length, get_or, replicate, set, slice_get, take, Option, Some, None, refl, sym, ap, subst, arith, append-nil, append_assoc, length-append, option_map, reverse}
use Rattle.std.specs.List.{Contains}
use Rattle.std.specs.List.Sorted.{IsStrictlyIncreasing}
use Rattle.std.proofs.lemmas.Bool.{cases_eq, cases_lt}
use Rattle.std.proofs.lemmas.List.{get_or-take, length-map, length-replicate, length-take-le, map_push, reverse-append, take_all, take_more}
use Rattle.std.proofs.lemmas.List.Elements.{Contains-append_left, Contains-push, Contains-push_cases}
use Rattle.std.proofs.lemmas.List.Kept.{AllPairs-from_increasing}
use Rattle.std.proofs.lemmas.Option.{same_Some, slice_get-get_or, slice_get-map, slice_get_within}
use Rattle.std.proofs.Math.ListN.{length-set}
use Rattle.cargo_lock_graph.specs.Drawing.{is_one_of}
use Rattle.cargo_lock_graph.specs.Edges.{GraphData}
use Rattle.cargo_lock_graph.specs.Paths.{IsPath}
use Rattle.lists.proofs.Members.{get-before, get-last, get-push, none-in, same-read, slice_get-set_other, slice_get-set_same}
use Rattle.cargo_lock_query.specs.Chains.{IsChainOfNeeds, IsNoWorse, IsShortestChain, IsUnreached, needs}
use Rattle.cargo_lock_query.specs.FirstChains.{AreFirstChains, AreFollowed, Entry, GoesOnFrom, HasLinked, IsEarlier, IsFoundBy, IsFromBelow, IsLinkAdded, IsTrail, Linked}
use Rattle.cargo_lock_query.specs.Steps.{uncounted}
use Rattle.cargo_lock_query.specs.declared.first.Link.{Link}
use Rattle.cargo_lock_query.proofs.Counting.{none-counted, uncounted-none, uncounted-set}
use Rattle.cargo_lock_query.proofs.Earlier.{earlier-alone, earlier-last, earlier-no-worse, earlier-on, no-worse-both, no-worse-on, no-worse-self}

-- ---- one element more

-- each number is above those before it
above-taken : (xs : List ℕ) (i n v : ℕ) → IsStrictlyIncreasing xs → i < length xs → n ≡ get_or xs i n → Contains (take i xs) v → v < n
above-taken xs i n v up low is (k, within, at) =
    let short : length (take i xs) ≡ i = length-take-le i xs (omega (arith, low)) in
    let front : k < i = omega (arith, within, short) in
    let first : get_or xs k v ≡ v = sym (get_or-take i xs k v front) ∙ at in
    let last : get_or xs i v ≡ n = same-read xs i n v low is in
    let pair = AllPairs-from_increasing xs up k i v front low in
    omega (arith, pair, first, last)

-- ---- one link more

-- the chains so far are still there, and a new one is this
pub record IsGrown (trail grown : List Entry) (node : ℕ) (from : Option ℕ) (chain : List ℕ) : Type 0 where
  pub kept : (i : ℕ) (e : Entry) → slice_get trail i ≡ Some e → slice_get grown i ≡ Some e
  pub added : (i : ℕ) (e : Entry) → slice_get grown i ≡ Some e → (slice_get trail i ≡ Some e) ⊎ ((e.chain ≡ chain) × (e.link.from ≡ from))
  pub found : IsFoundBy grown node chain

goes-kept : (trail : List Entry) (more : Entry) (i : ℕ) (e : Entry) (from : Option ℕ) → GoesOnFrom trail i e from → GoesOnFrom (trail ++ more ∷ []) i e from
goes-kept trail more i e None h = h
goes-kept trail more i e (Some p) h = (h.0, h.1, get-before trail more h.1 p h.2, h.3)

trail-more : (graph : GraphData) (starts : List ℕ) (trail : List Entry) (old new : Linked) (node : ℕ) (from : Option ℕ) (chain : List ℕ)
    → IsTrail graph starts old trail → IsLinkAdded node from old new
    → (let e : Entry = record { link = record { node = node; from = from }; chain = chain } in GoesOnFrom trail (length trail) e from)
    → IsChainOfNeeds graph starts node chain → ((i : ℕ) (e : Entry) → slice_get trail i ≡ Some e → IsEarlier e.chain chain)
    → (let e : Entry = record { link = record { node = node; from = from }; chain = chain } in IsTrail graph starts new (trail ++ e ∷ []))
trail-more graph starts trail old new node from chain is more goes leads before =
    let last : Entry = record { link = record { node = node; from = from }; chain = chain } in
    let long : length old.links ≡ length trail = ap length is.links ∙ length-map trail (λ (e : Entry). e.link) in
    let here : slice_get new.places node ≡ Some (Some (length trail)) = more.here ∙ ap (λ (n : ℕ). Some (Some n)) long in
    let other : (k i : ℕ) → slice_get old.places k ≡ Some (Some i) → ¬ (k ≡ node) =
    λ k i at same. (let e : None ≡ Some i = same_Some None (Some i) (sym more.bare ∙ ap (slice_get old.places) (sym same) ∙ at) in cc e) in
    record {
      links = more.links ∙ ap (λ (ls : List Link). ls ++ last.link ∷ []) is.links ∙ sym (map_push (λ (e : Entry). e.link) trail last);
      leads = λ i e at. elim (get-push trail last e i at) [
        | inl old ↦ is.leads i e old
        | inr new ↦ subst (λ (x : Entry). IsChainOfNeeds graph starts x.link.node x.chain) new.1 leads
      ];
      goes_on = λ i e at. elim (get-push trail last e i at) [
        | inl old ↦ goes-kept trail last i e e.link.from (is.goes_on i e old)
        | inr new ↦ subst (λ (n : ℕ). GoesOnFrom (trail ++ last ∷ []) n e e.link.from) (sym new.0)
            (subst (λ (x : Entry). GoesOnFrom (trail ++ last ∷ []) (length trail) x x.link.from) new.1 (goes-kept trail last (length trail) last from goes))
      ];
      ordered = λ i j e f less at of. elim (get-push trail last f j of) [
        | inl old ↦ elim (get-push trail last e i at) [
          | inl older ↦ is.ordered i j e f less older old
          | inr new ↦ absurd (let low = slice_get_within trail j f old in let end = new.0 in omega (arith, low, end, less))
        ]
        | inr new ↦ elim (get-push trail last e i at) [
          | inl older ↦ subst (λ (x : Entry). IsEarlier e.chain x.chain) new.1 (before i e older)
          | inr newer ↦ absurd (let one = new.0 in let end = newer.0 in omega (arith, one, end, less))
        ]
      ];
      has_place = λ i e at. elim (get-push trail last e i at) [
        | inl old ↦ let has = is.has_place i e old in more.others e.link.node (other e.link.node i has) ∙ has
        | inr added ↦ subst (λ (x : Entry). slice_get new.places x.link.node ≡ Some (Some i)) added.1 (here ∙ ap (λ (n : ℕ). Some (Some n)) (sym added.0))
      ];
      placed = λ k i at. elim (cases_eq k node) [
        | inl same ↦
            let place : length trail ≡ i = same_Some (length trail) i (same_Some (Some (length trail)) (Some i) (sym here ∙ ap (slice_get new.places) (sym same) ∙ at)) in
            (last, subst (λ (n : ℕ). slice_get (trail ++ last ∷ []) n ≡ Some last) place (get-last trail last), sym same)
        | inr differ ↦
            let (e, there, named) = is.placed k i (sym (more.others k differ) ∙ at) in
            (e, get-before trail last e i there, named)
      ];
      room =
          let a = is.room in
          let b = more.room in
          let c = more.count in
          let d = length-append trail (last ∷ []) in
          omega (arith, a, b, c, d);
    }

pub trail-next : (graph : GraphData) (starts : List ℕ) (trail : List Entry) (old new : Linked) (node : ℕ) (from : Option ℕ) (chain : List ℕ)
    → IsTrail graph starts old trail → HasLinked node from old new
    → (let e : Entry = record { link = record { node = node; from = from }; chain = chain } in GoesOnFrom trail (length trail) e from)
    → IsChainOfNeeds graph starts node chain → ((i : ℕ) (e : Entry) → slice_get trail i ≡ Some e → IsEarlier e.chain chain)
    → (grown : List Entry) × IsTrail graph starts new grown × IsGrown trail grown node from chain
trail-next graph starts trail old new node from chain is (inl (i, at, same)) goes leads before =
    let (e, there, named) = is.placed node i at in (
      trail,
      subst (λ (f : Linked). IsTrail graph starts f trail) (sym same) is,
      record {
        kept = λ i e h. h;
        added = λ i e h. inl h;
        found = (i, e, there, named, earlier-no-worse e.chain chain (before i e there));
      },
    )
trail-next graph starts trail old new node from chain is (inr more) goes leads before =
    let last : Entry = record { link = record { node = node; from = from }; chain = chain } in (
      trail ++ last ∷ [],
      trail-more graph starts trail old new node from chain is more goes leads before,
      record {
        kept = λ i e h. get-before trail last e i h;
        added = λ i e h. elim (get-push trail last e i h) [
          | inl old ↦ inl old
          | inr new ↦ inr (ap (λ (x : Entry). x.chain) (sym new.1), ap (λ (x : Entry). x.link.from) (sym new.1))
        ];
        found = (length trail, last, get-last trail last, refl, no-worse-self chain);
      },
    )

-- what was found is still found
found-kept : (trail grown : List Entry) (node : ℕ) (from : Option ℕ) (chain : List ℕ) (k : ℕ) (other : List ℕ) → IsGrown trail grown node from chain → IsFoundBy trail k other → IsFoundBy grown k other
found-kept trail grown node from chain k other more (i, e, at, named, best) = (i, e, more.kept i e at, named, best)

-- ---- one node

-- a node without a place
pub link-new : (old new : Linked) (node : ℕ) (from : Option ℕ) → slice_get old.places node ≡ Some None → new.places ≡ set old.places node (Some (length old.links))
    → new.links ≡ old.links ++ record { node = node; from = from } ∷ [] → HasLinked node from old new
link-new old new node from bare places links =
    let ps : List (Option ℕ) = old.places in
    let n : ℕ = length old.links in
    let low = slice_get_within ps node None bare in
    inr record {
      bare = bare;
      here = ap (λ (xs : List (Option ℕ)). slice_get xs node) places ∙ slice_get-set_same ps node (Some n) low;
      others = λ k other. ap (λ (xs : List (Option ℕ)). slice_get xs k) places ∙ slice_get-set_other ps node k (Some n) other;
      links = links;
      count = ap length places ∙ length-set ps node (Some n);
      room = let one = uncounted-set ps node n bare in let same = ap uncounted places in omega (arith, one, same);
    }

pub linked-count : (node : ℕ) (from : Option ℕ) (old new : Linked) → HasLinked node from old new → length new.places ≡ length old.places
linked-count node from old new (inl (i, at, same)) = ap (λ (f : Linked). length f.places) same
linked-count node from old new (inr more) = more.count

-- ---- the starts

-- the chains so far are those of the starts so far, each of one node
pub record AreBegun (graph : GraphData) (starts : List ℕ) (i : ℕ) (found : Linked) : Type 0 where
  pub trail : List Entry
  pub is : IsTrail graph starts found trail
  pub count : length found.places ≡ length graph.packages
  pub alone : (j : ℕ) (e : Entry) → slice_get trail j ≡ Some e → (e.link.from ≡ None) × (k : ℕ) × Contains (take i starts) k × (e.chain ≡ k ∷ [])
  pub begun : (k : ℕ) → Contains (take i starts) k → IsFoundBy trail k (k ∷ [])

pub begun-none : (graph : GraphData) (starts : List ℕ) (found : Linked) → found.links ≡ [] → found.places ≡ replicate (length graph.packages) None → AreBegun graph starts 0 found
begun-none graph starts found none bare = record {
  trail = [];
  is = record {
    links = none;
    leads = λ i e at. cc at;
    goes_on = λ i e at. cc at;
    ordered = λ i j e f less at of. cc at;
    has_place = λ i e at. cc at;
    placed = λ k i at. absurd (none-counted (length graph.packages) k i (subst (λ (ps : List (Option ℕ)). slice_get ps k ≡ Some (Some i)) bare at));
    room =
        let count : length found.places ≡ length graph.packages = ap length bare ∙ length-replicate (length graph.packages) None in
        let all : uncounted found.places ≡ length graph.packages = ap uncounted bare ∙ uncounted-none (length graph.packages) in
        omega (arith, count, all);
  };
  count = ap length bare ∙ length-replicate (length graph.packages) None;
  alone = λ j e at. cc at;
  begun = λ k h. absurd (none-in k h);
}

taken : (xs : List ℕ) (i n : ℕ) → i < length xs → n ≡ get_or xs i n → take (i + 1) xs ≡ take i xs ++ n ∷ []
taken xs i n low is = take_more xs i n low ∙ ap (λ m. take i xs ++ m ∷ []) (sym is)

in-all : (xs : List ℕ) (i n : ℕ) → i < length xs → n ≡ get_or xs i n → Contains xs n
in-all xs i n low is = (i, low, sym is)

pub begun-next : (graph : GraphData) (starts : List ℕ) (i start : ℕ) (old new : Linked) → IsStrictlyIncreasing starts → i < length starts → start ≡ get_or starts i start
    → HasLinked start None old new → AreBegun graph starts i old → AreBegun graph starts (i + 1) new
begun-next graph starts i start old new up low is linked h =
    let next = trail-next graph starts h.trail old new start None (start ∷ []) h.is linked refl (in-all starts i start low is, refl)
    (λ j e at. let (none, k, among, one) = h.alone j e at in subst (λ (c : List ℕ). IsEarlier c (start ∷ [])) (sym one) (inr (refl, inl (above-taken starts i start k up low is among)))) in
    let more = next.2 in
    let front : take (i + 1) starts ≡ take i starts ++ start ∷ [] = taken starts i start low is in
    record {
      trail = next.0;
      is = next.1;
      count = linked-count start None old new linked ∙ h.count;
      alone = λ j e at. elim (more.added j e at) [
        | inl old ↦
            let (none, k, among, one) = h.alone j e old in
            (none, k, subst (λ (ns : List ℕ). Contains ns k) (sym front) (Contains-append_left (take i starts) (start ∷ []) k among), one)
        | inr new ↦ (new.1, start, subst (λ (ns : List ℕ). Contains ns start) (sym front) (Contains-push (take i starts) start), new.0)
      ];
      begun = λ k among. elim (Contains-push_cases (take i starts) start k (subst (λ (ns : List ℕ). Contains ns k) front among)) [
        | inl old ↦ found-kept h.trail next.0 start None (start ∷ []) k (k ∷ []) more (h.begun k old)
        | inr new ↦ subst (λ (n : ℕ). IsFoundBy next.0 n (n ∷ [])) new more.found
      ];
    }

pub begun-all : (graph : GraphData) (starts : List ℕ) (i : ℕ) (found : Linked) → length starts ≤ i → AreBegun graph starts i found → AreFollowed graph starts 0 found
begun-all graph starts i found end h = record {
  trail = h.trail;
  is = h.is;
  count = h.count;
  from = λ j p e at some. (let none = (h.alone j e at).0 in let bad : None ≡ Some p = sym none ∙ some in cc bad);
  begun = λ k among. h.begun k (subst (λ (ns : List ℕ). Contains ns k) (sym (take_all i starts end)) among);
  closed = λ j k e low at leads. absurd (omega (arith, low));
}

-- ---- what a chain goes on to

chain-some : (graph : GraphData) (starts : List ℕ) (to : ℕ) (chain : List ℕ) → IsChainOfNeeds graph starts to chain → 0 < length chain
chain-some graph starts to [] h = absurd h
chain-some graph starts to (c ∷ cs) h = omega arith

-- one edge more
path-on : (far : ℕ → List ℕ) (a : ℕ) (path : List ℕ) (b c : ℕ) → IsPath far a path b → is_one_of c (far b) ≡ true → IsPath far a (path ++ c ∷ []) c
path-on far a [] b c same h = (subst (λ n. is_one_of c (far n) ≡ true) (sym same) h, refl)
path-on far a (n ∷ ns) b c leads h = (leads.0, path-on far n ns b c leads.1 h)

chain-on : (graph : GraphData) (starts : List ℕ) (a b : ℕ) (chain : List ℕ) → IsChainOfNeeds graph starts a chain → is_one_of b (needs graph a) ≡ true → IsChainOfNeeds graph starts b (chain ++ b ∷ [])
chain-on graph starts a b [] h leads = absurd h
chain-on graph starts a b (c ∷ cs) h leads = (h.0, path-on (needs graph) c cs a b h.1 leads)

-- each chain that is found is earlier than each that goes on from this one
earlier-than-next : (graph : GraphData) (starts : List ℕ) (found : Linked) (trail : List Entry) (h i w : ℕ) (last e : Entry) (from : Option ℕ) → IsTrail graph starts found trail
    → slice_get trail h ≡ Some last → ((p : ℕ) → from ≡ Some p → p < h) → GoesOnFrom trail i e from → IsEarlier e.chain (last.chain ++ w ∷ [])
earlier-than-next graph starts found trail h i w last e None is at below goes =
    subst (λ (c : List ℕ). IsEarlier c (last.chain ++ w ∷ [])) (sym goes)
    (earlier-alone e.link.node last.chain w (chain-some graph starts last.link.node last.chain (is.leads h last at)))
earlier-than-next graph starts found trail h i w last e (Some p) is at below (lower, front, there, goes) =
    subst (λ (c : List ℕ). IsEarlier c (last.chain ++ w ∷ [])) (sym goes)
    (earlier-on front.chain last.chain e.link.node w (is.ordered p h front last (below p refl) there at))

-- what the chain at this place goes on to is found, as far as these ends
pub record AreFollowing (graph : GraphData) (starts : List ℕ) (h : ℕ) (last : Entry) (ends : List ℕ) (i : ℕ) (found : Linked) : Type 0 where
  pub trail : List Entry
  pub is : IsTrail graph starts found trail
  pub count : length found.places ≡ length graph.packages
  pub from : (j p : ℕ) (e : Entry) → slice_get trail j ≡ Some e → e.link.from ≡ Some p → p < h + 1
  pub begun : (k : ℕ) → Contains starts k → IsFoundBy trail k (k ∷ [])
  pub closed : (j k : ℕ) (e : Entry) → j < h → slice_get trail j ≡ Some e → is_one_of k (needs graph e.link.node) ≡ true → IsFoundBy trail k (e.chain ++ k ∷ [])
  pub here : slice_get trail h ≡ Some last
  pub below : (j w : ℕ) (e : Entry) → slice_get trail j ≡ Some e → ((v : ℕ) → Contains (take i ends) v → v < w) → IsEarlier e.chain (last.chain ++ w ∷ [])
  pub done : (w : ℕ) → Contains (take i ends) w → IsFoundBy trail w (last.chain ++ w ∷ [])

pub following-none : (graph : GraphData) (starts : List ℕ) (h : ℕ) (last : Entry) (ends : List ℕ) (found : Linked) (f : AreFollowed graph starts h found) → slice_get f.trail h ≡ Some last
    → AreFollowing graph starts h last ends 0 found
following-none graph starts h last ends found f at = record {
  trail = f.trail;
  is = f.is;
  count = f.count;
  from = λ j p e there is. (let low = f.from j p e there is in omega (arith, low));
  begun = f.begun;
  closed = f.closed;
  here = at;
  below = λ j w e there above. earlier-than-next graph starts found f.trail h j w last e e.link.from f.is at (λ p is. f.from j p e there is) (f.is.goes_on j e there);
  done = λ w among. absurd (none-in w among);
}

-- what was there before is there
old-below : (trail grown : List Entry) (node : ℕ) (from : Option ℕ) (chain : List ℕ) (j : ℕ) (e : Entry) → IsGrown trail grown node from chain → j < length trail
    → slice_get grown j ≡ Some e → slice_get trail j ≡ Some e
old-below trail grown node from chain j e more low at =
    let there : slice_get trail j ≡ Some (get_or trail j e) = slice_get-get_or trail j e low in
    there ∙ ap Some (same_Some (get_or trail j e) e (sym (more.kept j (get_or trail j e) there) ∙ at))

pub following-next : (graph : GraphData) (starts : List ℕ) (h : ℕ) (last : Entry) (ends : List ℕ) (i end : ℕ) (old new : Linked) → IsStrictlyIncreasing ends → i < length ends → end ≡ get_or ends i end
    → is_one_of end (needs graph last.link.node) ≡ true → HasLinked end (Some h) old new → AreFollowing graph starts h last ends i old → AreFollowing graph starts h last ends (i + 1) new
following-next graph starts h last ends i end old new up low is leads linked f =
    let chain : List ℕ = last.chain ++ end ∷ [] in
    let h-low = slice_get_within f.trail h last f.here in
    let next = trail-next graph starts f.trail old new end (Some h) chain f.is linked (h-low, last, f.here, refl)
    (chain-on graph starts last.link.node end last.chain (f.is.leads h last f.here) leads)
    (λ j e at. f.below j end e at (λ v among. above-taken ends i end v up low is among)) in
    let more = next.2 in
    let front : take (i + 1) ends ≡ take i ends ++ end ∷ [] = taken ends i end low is in
    record {
      trail = next.0;
      is = next.1;
      count = linked-count end (Some h) old new linked ∙ f.count;
      from = λ j p e at some. elim (more.added j e at) [
        | inl before ↦ f.from j p e before some
        | inr added ↦ let same : p ≡ h = same_Some p h (sym some ∙ added.1) in omega (arith, same)
      ];
      begun = λ k among. found-kept f.trail next.0 end (Some h) chain k (k ∷ []) more (f.begun k among);
      closed = λ j k e less at on.
          found-kept f.trail next.0 end (Some h) chain k (e.chain ++ k ∷ []) more
          (f.closed j k e less (old-below f.trail next.0 end (Some h) chain j e more (omega (arith, less, h-low)) at) on);
      here = more.kept h last f.here;
      below = λ j w e at above. elim (more.added j e at) [
        | inl before ↦ f.below j w e before (λ v among. above v (subst (λ (ns : List ℕ). Contains ns v) (sym front) (Contains-append_left (take i ends) (end ∷ []) v among)))
        | inr added ↦ subst (λ (c : List ℕ). IsEarlier c (last.chain ++ w ∷ [])) (sym added.0)
            (earlier-last last.chain end w (above end (subst (λ (ns : List ℕ). Contains ns end) (sym front) (Contains-push (take i ends) end))))
      ];
      done = λ w among. elim (Contains-push_cases (take i ends) end w (subst (λ (ns : List ℕ). Contains ns w) front among)) [
        | inl before ↦ found-kept f.trail next.0 end (Some h) chain w (last.chain ++ w ∷ []) more (f.done w before)
        | inr new ↦ subst (λ (n : ℕ). IsFoundBy next.0 n (last.chain ++ n ∷ [])) new more.found
      ];
    }

pub following-all : (graph : GraphData) (starts : List ℕ) (h : ℕ) (last : Entry) (ends : List ℕ) (i : ℕ) (found : Linked) → length ends ≤ i
    → ((k : ℕ) → is_one_of k (needs graph last.link.node) ≡ true → Contains ends k) → AreFollowing graph starts h last ends i found → AreFollowed graph starts (h + 1) found
following-all graph starts h last ends i found end listed f = record {
  trail = f.trail;
  is = f.is;
  count = f.count;
  from = f.from;
  begun = f.begun;
  closed = λ j k e low at leads. elim (cases_lt j h) [
    | inl before ↦ f.closed j k e before at leads
    | inr past ↦
        let here : j ≡ h = omega (arith, low, past) in
        let same : last ≡ e = same_Some last e (sym f.here ∙ ap (slice_get f.trail) (sym here) ∙ at) in
        subst (λ (x : Entry). IsFoundBy f.trail k (x.chain ++ k ∷ [])) same
        (f.done k (subst (λ (ns : List ℕ). Contains ns k) (sym (take_all i ends end)) (listed k (subst (λ (x : Entry). is_one_of k (needs graph x.link.node) ≡ true) (sym same) leads))))
  ];
}

-- ---- the whole

-- a path from a node to which a chain was found leads to a node to which one was found
covered : (graph : GraphData) (starts : List ℕ) (bound : ℕ) (found : Linked) (f : AreFollowed graph starts bound found) → length f.trail ≤ bound
    → (k : ℕ) (front path : List ℕ) (to : ℕ) → IsFoundBy f.trail k front → IsPath (needs graph) k path to → IsFoundBy f.trail to (front ++ path)
covered graph starts bound found f past k front [] to h same =
    subst (λ (c : List ℕ). IsFoundBy f.trail to c) (sym (append-nil front)) (subst (λ (n : ℕ). IsFoundBy f.trail n front) same h)
covered graph starts bound found f past k front (b ∷ bs) to (i, e, at, named, best) leads =
    let low = slice_get_within f.trail i e at in
    let on : IsFoundBy f.trail b (e.chain ++ b ∷ []) = f.closed i b e (omega (arith, low, past)) at (subst (λ (n : ℕ). is_one_of b (needs graph n) ≡ true) (sym named) leads.0) in
    let (j, g, there, is, better) = on in
    subst (λ (c : List ℕ). IsFoundBy f.trail to c) (append_assoc front (b ∷ []) bs)
    (covered graph starts bound found f past b (front ++ b ∷ []) bs to
    (j, g, there, is, no-worse-both g.chain (e.chain ++ b ∷ []) (front ++ b ∷ []) better (no-worse-on e.chain front b best)) leads.1)

chain-covered : (graph : GraphData) (starts : List ℕ) (bound : ℕ) (found : Linked) (f : AreFollowed graph starts bound found) → length f.trail ≤ bound
    → (to : ℕ) (chain : List ℕ) → IsChainOfNeeds graph starts to chain → IsFoundBy f.trail to chain
chain-covered graph starts bound found f past to [] h = absurd h
chain-covered graph starts bound found f past to (c ∷ cs) h = covered graph starts bound found f past c (c ∷ []) cs to (f.begun c h.0) h.1

trail-past : (graph : GraphData) (starts : List ℕ) (found : Linked) (f : AreFirstChains graph starts found) → length f.followed.trail ≤ f.bound
trail-past graph starts found f =
    let past = f.past in
    let long : length found.links ≡ length f.followed.trail = ap length f.followed.is.links ∙ length-map f.followed.trail (λ (e : Entry). e.link) in
    omega (arith, past, long)

-- the chain to a node with a place
pub first-chain : (graph : GraphData) (starts : List ℕ) (found : Linked) (to place : ℕ) (chain : List ℕ) → AreFirstChains graph starts found → slice_get found.places to ≡ Some (Some place)
    → ((trail : List Entry) (e : Entry) → IsTrail graph starts found trail → slice_get trail place ≡ Some e → chain ≡ e.chain) → IsShortestChain graph starts to chain
first-chain graph starts found to place chain f at made =
    let g = f.followed in
    let (e, there, named) = g.is.placed to place at in
    subst (IsShortestChain graph starts to) (sym (made g.trail e g.is there)) record {
      leads = subst (λ (n : ℕ). IsChainOfNeeds graph starts n e.chain) named (g.is.leads place e there);
      best = λ other leads.
          let (j, x, among, is, better) = chain-covered graph starts f.bound found g (trail-past graph starts found f) to other leads in
          let has : slice_get found.places to ≡ Some (Some j) = ap (slice_get found.places) (sym is) ∙ g.is.has_place j x among in
          let same : j ≡ place = same_Some j place (same_Some (Some j) (Some place) (sym has ∙ at)) in
          let one : x ≡ e = same_Some x e (sym among ∙ ap (slice_get g.trail) same ∙ there) in
          subst (λ (y : Entry). IsNoWorse y.chain other) one better;
    }

-- no chain leads to a node without one
pub no-chain : (graph : GraphData) (starts : List ℕ) (found : Linked) (to : ℕ) → AreFirstChains graph starts found → ((place : ℕ) → ¬ (slice_get found.places to ≡ Some (Some place)))
    → IsUnreached graph starts to
no-chain graph starts found to f none chain leads =
    let g = f.followed in
    let (j, x, among, is, better) = chain-covered graph starts f.bound found g (trail-past graph starts found f) to chain leads in
    none j (ap (slice_get found.places) (sym is) ∙ g.is.has_place j x among)

-- ---- back along the links

goes-below : (trail : List Entry) (i : ℕ) (e : Entry) (from : Option ℕ) → GoesOnFrom trail i e from → IsFromBelow i from
goes-below trail i e None goes = tt
goes-below trail i e (Some p) goes = goes.0

-- the entry of a link
pub entry-of : (graph : GraphData) (starts : List ℕ) (found : Linked) (trail : List Entry) (i : ℕ) (link : Link) → IsTrail graph starts found trail → slice_get found.links i ≡ Some link
    → (e : Entry) × (slice_get trail i ≡ Some e) × (e.link ≡ link)
entry-of graph starts found trail i link is at = go (slice_get trail i) refl
    (sym (slice_get-map (λ (e : Entry). e.link) trail i) ∙ ap (λ (ls : List Link). slice_get ls i) (sym is.links) ∙ at) where
      go : (o : Option Entry) → slice_get trail i ≡ o → option_map (λ (e : Entry). e.link) o ≡ Some link → (e : Entry) × (slice_get trail i ≡ Some e) × (e.link ≡ link)
      go None is h = cc h
      go (Some e) is h = (e, is, same_Some e.link link h)

-- the link of the entry at a place
pub link-of : (graph : GraphData) (starts : List ℕ) (found : Linked) (trail : List Entry) (i : ℕ) (link : Link) (e : Entry) → IsTrail graph starts found trail → slice_get found.links i ≡ Some link
    → slice_get trail i ≡ Some e → e.link ≡ link
link-of graph starts found trail i link e is at there =
    let (f, here, same) = entry-of graph starts found trail i link is at in
    ap (λ (x : Entry). x.link) (same_Some e f (sym there ∙ here)) ∙ same

pub links-below : (graph : GraphData) (starts : List ℕ) (found : Linked) → AreFirstChains graph starts found → (i : ℕ) (link : Link) → slice_get found.links i ≡ Some link → IsFromBelow i link.from
links-below graph starts found f i link at =
    let g = f.followed in
    let (e, there, same) = entry-of graph starts found g.trail i link g.is at in
    subst (λ (l : Link). IsFromBelow i l.from) same (goes-below g.trail i e e.link.from (g.is.goes_on i e there))

-- what is in front of the nodes so far
abbrev pub IsFront : List Entry → Option ℕ → List ℕ → Type 0
IsFront trail None front = front ≡ []
IsFront trail (Some p) front = (e : Entry) × (slice_get trail p ≡ Some e) × (front ≡ e.chain)

-- the nodes so far are the last ones of a chain, from its end back
pub record IsBack (trail : List Entry) (whole : List ℕ) (next : Option ℕ) (nodes : List ℕ) : Type 0 where
  pub front : List ℕ
  pub is : whole ≡ front ++ reverse nodes
  pub at : IsFront trail next front

pub back-start : (trail : List Entry) (place : ℕ) (e : Entry) (nodes : List ℕ) → slice_get trail place ≡ Some e → nodes ≡ [] → IsBack trail e.chain (Some place) nodes
back-start trail place e nodes at none = record {
  front = e.chain;
  is = sym (append-nil e.chain) ∙ ap (λ (ns : List ℕ). e.chain ++ reverse ns) (sym none);
  at = (e, at, refl);
}

back-from : (trail : List Entry) (whole : List ℕ) (p : ℕ) (e : Entry) (nodes : List ℕ) (from : Option ℕ) → whole ≡ e.chain ++ reverse nodes → GoesOnFrom trail p e from
    → IsBack trail whole from (nodes ++ e.link.node ∷ [])
back-from trail whole p e nodes None is goes = record {
  front = [];
  is = is ∙ ap (λ (ns : List ℕ). ns ++ reverse nodes) goes ∙ sym (reverse-append nodes (e.link.node ∷ []));
  at = refl;
}
back-from trail whole p e nodes (Some q) is (low, front, there, goes) = record {
  front = front.chain;
  is = is ∙ ap (λ (ns : List ℕ). ns ++ reverse nodes) goes ∙ append_assoc front.chain (e.link.node ∷ []) (reverse nodes)
      ∙ ap (λ (ns : List ℕ). front.chain ++ ns) (sym (reverse-append nodes (e.link.node ∷ [])));
  at = (front, there, refl);
}

pub back-next : (graph : GraphData) (starts : List ℕ) (found : Linked) (trail : List Entry) (whole : List ℕ) (p : ℕ) (link : Link) (nodes longer : List ℕ) → IsTrail graph starts found trail
    → slice_get found.links p ≡ Some link → longer ≡ nodes ++ link.node ∷ [] → IsBack trail whole (Some p) nodes → IsBack trail whole link.from longer
back-next graph starts found trail whole p link nodes longer is at long h =
    let (e, there, same) = entry-of graph starts found trail p link is at in
    let (f, here, front) = h.at in
    let one : f ≡ e = same_Some f e (sym here ∙ there) in
    let back : IsBack trail whole e.link.from (nodes ++ e.link.node ∷ []) =
    back-from trail whole p e nodes e.link.from (h.is ∙ ap (λ (ns : List ℕ). ns ++ reverse nodes) (front ∙ ap (λ (x : Entry). x.chain) one)) (is.goes_on p e there) in
    subst (λ (ns : List ℕ). IsBack trail whole link.from ns) (sym long) (subst (λ (l : Link). IsBack trail whole l.from (nodes ++ l.node ∷ [])) same back)

pub back-end : (trail : List Entry) (whole nodes turned : List ℕ) → turned ≡ reverse nodes → IsBack trail whole None nodes → turned ≡ whole
back-end trail whole nodes turned is h = is ∙ sym (h.is ∙ ap (λ (ns : List ℕ). ns ++ reverse nodes) h.at)

-- there is a link where there is an entry
pub back-off : (graph : GraphData) (starts : List ℕ) (found : Linked) (trail : List Entry) (whole : List ℕ) (p : ℕ) (nodes : List ℕ) → IsTrail graph starts found trail
    → slice_get found.links p ≡ None → IsBack trail whole (Some p) nodes → ⊥
back-off graph starts found trail whole p nodes is none h =
    let (e, here, front) = h.at in
    let some : slice_get found.links p ≡ Some e.link = ap (λ (ls : List Link). slice_get ls p) is.links ∙ slice_get-map (λ (x : Entry). x.link) trail p ∙ ap (option_map (λ (x : Entry). x.link)) here in
    let bad : None ≡ Some e.link = sym none ∙ some in cc bad

-- how many places there are up to the next one
abbrev pub places_left : Option ℕ → ℕ
places_left None = 0
places_left (Some p) = suc p

pub places-fewer : (p : ℕ) (from : Option ℕ) → IsFromBelow p from → places_left from < suc p
places-fewer p None below = omega arith
places-fewer p (Some q) below = omega (arith, below)
