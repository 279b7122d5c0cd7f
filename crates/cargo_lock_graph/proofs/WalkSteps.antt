-- One step of a walk, on the lists that it keeps.
use Rattle.std.proofs.Common.{◌≡◌, ℕ, zero, suc, ◌+◌, ◌-◌, ◌<◌, ◌≤◌, map, reverse, Bool, true, false, List, [], ◌∷◌, ◌++◌, length, get_or, set, replicate, All, Option, Some, None, refl, sym, ap, subst, ◌∙◌, append_assoc, add-zero, arith}
use Rattle.std.specs.Prelude.{IfSome, option_map}
use Rattle.std.proofs.lemmas.List.{append-nil, length-set, length-replicate, length_push, get_or_read, length-reverse, get_or-reverse}
use Rattle.std.proofs.lemmas.List.Elements.{All-push, All-pop, All-filter, All-map}
use Rattle.std.specs.List.{filter}
use Rattle.cargo_lock_graph.specs.declared.graph.EdgeDirection.{EdgeDirection}
use Rattle.cargo_lock_graph.specs.declared.graph.EdgeDirection.TheVariants.{Outgoing, Incoming}
use Rattle.cargo_lock_graph.specs.declared.drawing.entry.Entry.{Entry}
use Rattle.cargo_lock_graph.specs.Chains.{AreBetween}
use Rattle.cargo_lock_graph.specs.Drawing.{AreBelow}
use Rattle.cargo_lock_graph.specs.DrawingMade.{entries_below, unmarked_count, rest_of, drawing}
use Rattle.cargo_lock_graph.specs.Edges.{Edge, far_end, far_ends, far_ends_from, edges_at, edges_from, is_at}
use Rattle.cargo_lock_graph.specs.WalkState.{entries_waiting, entries_to_come, IsHeld}
use Rattle.cargo_lock_graph.proofs.DrawingMade.{unmarked_count-set, rest-seen, rest-new, rest-end}

waiting_push : (d : EdgeDirection) (edges : List Edge) (depth : ℕ) (fs : List (Option ℕ)) (f : Option ℕ) → entries_waiting d edges depth (fs ++ f ∷ []) ≡ entries_below (suc (depth + length fs)) (far_ends_from d edges f) ++ entries_waiting d edges depth fs
waiting_push d edges depth [] f = rw add-zero (sym (append-nil (entries_below (suc depth) (far_ends_from d edges f))))
waiting_push d edges depth (g ∷ fs) f =
    let n : suc depth + length fs ≡ depth + suc (length fs) = omega arith in
    let own = entries_below (suc depth) (far_ends_from d edges g) in
    ap (λ (p : List Entry). p ++ own) (waiting_push d edges (suc depth) fs f) ∙ append_assoc (entries_below (suc (suc depth + length fs)) (far_ends_from d edges f)) (entries_waiting d edges (suc depth) fs) own
    ∙ ap (λ (k : ℕ). entries_below (suc k) (far_ends_from d edges f) ++ entries_waiting d edges depth (g ∷ fs)) n

-- no frame is left
pub coming_end : (d : EdgeDirection) (edges : List Edge) (marks : List Bool) → entries_to_come d edges marks [] ≡ []
unfolding entries_to_come
coming_end d edges marks = rest-end (far_ends d edges) marks

-- the last frame has no edge left
pub coming_done : (d : EdgeDirection) (edges : List Edge) (marks : List Bool) (old fs : List (Option ℕ)) (f : Option ℕ) → old ≡ fs ++ f ∷ [] → f ≡ None → entries_to_come d edges marks old ≡ entries_to_come d edges marks fs
unfolding entries_to_come
coming_done d edges marks old fs f was none =
    let none_left : far_ends_from d edges f ≡ [] = ap (far_ends_from d edges) none in
    ap (λ (gs : List (Option ℕ)). rest_of (far_ends d edges) marks (entries_waiting d edges 0 gs)) was
    ∙ ap (rest_of (far_ends d edges) marks) (waiting_push d edges 0 fs f ∙ ap (λ (ns : List ℕ). entries_below (suc (0 + length fs)) ns ++ entries_waiting d edges 0 fs) none_left)

-- the edge at a place, and the older_edge ones
pub ends_step : (d : EdgeDirection) (edges : List Edge) (i m : ℕ) (r : Option ℕ) (o : Option Edge) → IfSome o (λ e. edges_from d edges (Some i) ≡ e ∷ edges_from d edges r) → option_map (far_end d) o ≡ Some m → far_ends_from d edges (Some i) ≡ m ∷ far_ends_from d edges r
ends_step d edges i m r None older_edge end = absurd cc
ends_step d edges i m r (Some e) older_edge end = let same : far_end d e ≡ m = cc in ap (map (far_end d)) older_edge ∙ ap (λ (k : ℕ). k ∷ far_ends_from d edges r) same

-- the entry that the edge of the last frame leads to comes first
pub followed : (d : EdgeDirection) (edges : List Edge) (marks : List Bool) (fs mid : List (Option ℕ)) (f f' : Option ℕ) (m depth : ℕ) → far_ends_from d edges f ≡ m ∷ far_ends_from d edges f' → mid ≡ fs ++ f' ∷ [] → depth ≡ suc (length fs)
    → entries_to_come d edges marks (fs ++ f ∷ []) ≡ rest_of (far_ends d edges) marks (record { node = m; depth = depth } ∷ entries_waiting d edges 0 mid)
unfolding entries_to_come
followed d edges marks fs mid f f' m depth ends is deep =
    let n : suc (0 + length fs) ≡ depth = omega arith in
    let first : entries_waiting d edges 0 (fs ++ f ∷ []) ≡ record { node = m; depth = depth } ∷ entries_waiting d edges 0 mid =
    waiting_push d edges 0 fs f ∙ ap (λ (ns : List ℕ). entries_below (suc (0 + length fs)) ns ++ entries_waiting d edges 0 fs) ends
    ∙ ap (λ (k : ℕ). record { node = m; depth = k } ∷ (entries_below (suc (0 + length fs)) (far_ends_from d edges f') ++ entries_waiting d edges 0 fs)) n
    ∙ ap (λ (p : List Entry). record { node = m; depth = depth } ∷ p) (sym (waiting_push d edges 0 fs f') ∙ ap (entries_waiting d edges 0) (sym is)) in
    ap (rest_of (far_ends d edges) marks) first

-- an entry of a node that was drawn before
pub entered_again : (d : EdgeDirection) (edges : List Edge) (marks : List Bool) (fs : List (Option ℕ)) (m depth : ℕ) → get_or marks m true ≡ true
    → rest_of (far_ends d edges) marks (record { node = m; depth = depth } ∷ entries_waiting d edges 0 fs) ≡ record { node = m; depth = depth } ∷ entries_to_come d edges marks fs
unfolding entries_to_come
entered_again d edges marks fs m depth t = rest-seen (far_ends d edges) marks (record { node = m; depth = depth }) (entries_waiting d edges 0 fs) t

-- the first entry of a node
pub entered_new : (d : EdgeDirection) (edges : List Edge) (marks : List Bool) (fs new : List (Option ℕ)) (g : Option ℕ) (m depth : ℕ) → get_or marks m true ≡ false → depth ≡ length fs → far_ends_from d edges g ≡ far_ends d edges m → new ≡ fs ++ g ∷ []
    → rest_of (far_ends d edges) marks (record { node = m; depth = depth } ∷ entries_waiting d edges 0 fs) ≡ record { node = m; depth = depth } ∷ entries_to_come d edges (set marks m true) new
unfolding entries_to_come
entered_new d edges marks fs new g m depth t deep all is =
    let e : Entry = record { node = m; depth = depth } in
    let n : suc (0 + length fs) ≡ suc depth = omega arith in
    let pushed : entries_waiting d edges 0 new ≡ entries_below (suc depth) (far_ends d edges m) ++ entries_waiting d edges 0 fs =
    ap (entries_waiting d edges 0) is ∙ waiting_push d edges 0 fs g ∙ ap (λ (k : ℕ). entries_below k (far_ends_from d edges g) ++ entries_waiting d edges 0 fs) n ∙ ap (λ (ns : List ℕ). entries_below (suc depth) ns ++ entries_waiting d edges 0 fs) all in
    rest-new (far_ends d edges) marks e (entries_waiting d edges 0 fs) t
    ∙ ap (λ (q : List Entry). e ∷ rest_of (far_ends d edges) (set marks m true) q) (sym pushed)

-- what a walk before its first entry has to draw
pub drawing_starts : (d : EdgeDirection) (edges : List Edge) (nodes start : ℕ) (marks : List Bool) (fs : List (Option ℕ)) → marks ≡ replicate nodes false → fs ≡ []
    → rest_of (far_ends d edges) marks (record { node = start; depth = 0 } ∷ entries_waiting d edges 0 fs) ≡ drawing (far_ends d edges) nodes start
drawing_starts d edges nodes start marks fs none empty =
    let e : Entry = record { node = start; depth = 0 } in
    ap (λ (gs : List (Option ℕ)). rest_of (far_ends d edges) marks (e ∷ entries_waiting d edges 0 gs)) empty
    ∙ ap (λ (ms : List Bool). rest_of (far_ends d edges) ms (e ∷ [])) none

-- ---- what is held

unmarked_count-none : (n : ℕ) → unmarked_count (replicate n false) ≡ n
unmarked_count-none zero = refl
unmarked_count-none (suc n) = omega (arith, unmarked_count-none n)

abbrev Known : ℕ → Option ℕ → Type 0
Known edges f = IfSome f (λ edge. edge < edges)

pub held_start : (nodes edges capacity : ℕ) (marks : List Bool) (fs : List (Option ℕ)) → marks ≡ replicate nodes false → fs ≡ [] → nodes ≤ capacity → IsHeld nodes edges marks fs capacity
held_start nodes edges capacity marks fs none empty le = record {
  long = ap length none ∙ length-replicate nodes false;
  known = subst (All (Known edges)) (sym empty) (λ k d out. absurd (omega arith));
  room = omega (arith, ap length empty, ap unmarked_count none, unmarked_count-none nodes);
  reserved = le;
}

pub held_pop : (nodes edges : ℕ) (marks : List Bool) (old fs : List (Option ℕ)) (f : Option ℕ) (capacity : ℕ) → old ≡ fs ++ f ∷ [] → IsHeld nodes edges marks old capacity → IsHeld nodes edges marks fs capacity × Known edges f
held_pop nodes edges marks old fs f capacity was h =
    let parts = All-pop (Known edges) old fs (Some f) was h.known in
    (record { long = h.long; known = parts.0; room = omega (arith, h.room, ap length was, length_push fs f); reserved = h.reserved }, parts.1)

-- an edge before one of the graph's
pub known_earlier : (edges edge : ℕ) (f : Option ℕ) → IfSome f (λ older. older < edge) → edge < edges → Known edges f
known_earlier edges edge None earlier lt = tt
known_earlier edges edge (Some older) earlier lt = omega (arith, earlier)

-- another frame in place of the last one
pub held_on : (nodes edges : ℕ) (marks : List Bool) (fs mid : List (Option ℕ)) (f f' : Option ℕ) (capacity capacity' : ℕ) → mid ≡ fs ++ f' ∷ [] → capacity ≤ capacity' → IsHeld nodes edges marks (fs ++ f ∷ []) capacity → Known edges f' → IsHeld nodes edges marks mid capacity'
held_on nodes edges marks fs mid f f' capacity capacity' is le h known =
    let popped = (held_pop nodes edges marks (fs ++ f ∷ []) fs f capacity refl h).0 in
    record {
      long = h.long;
      known = subst (All (Known edges)) (sym is) (All-push (Known edges) fs f' popped.known known);
      room = omega (arith, h.room, length_push fs f, length_push fs f', ap length is);
      reserved = omega (arith, h.reserved);
    }

-- one more frame, and a mark for its node
pub held_new : (nodes edges : ℕ) (marks : List Bool) (fs new : List (Option ℕ)) (g : Option ℕ) (m capacity capacity' : ℕ) → new ≡ fs ++ g ∷ [] → capacity ≤ capacity' → IsHeld nodes edges marks fs capacity → get_or marks m true ≡ false → Known edges g
    → IsHeld nodes edges (set marks m true) new capacity'
held_new nodes edges marks fs new g m capacity capacity' is le h t known = record {
  long = length-set marks m true ∙ h.long;
  known = subst (All (Known edges)) (sym is) (All-push (Known edges) fs g h.known known);
  room = omega (arith, h.room, ap length is, length_push fs g, unmarked_count-set marks m t);
  reserved = omega (arith, h.reserved);
}

pub room_new : (nodes edges : ℕ) (marks : List Bool) (fs : List (Option ℕ)) (m capacity : ℕ) → IsHeld nodes edges marks fs capacity → get_or marks m true ≡ false → suc (length fs) ≤ nodes
room_new nodes edges marks fs m capacity h t = omega (arith, h.room, unmarked_count-set marks m t)

pub read_mark : (marks : List Bool) (m : ℕ) (x b : Bool) → m < length marks → x ≡ get_or marks m x → x ≡ b → get_or marks m true ≡ b
read_mark marks m x b lt h t = sym (get_or_read marks m x lt h true) ∙ t

-- ---- far ends are nodes

all_reverse : (P : Edge → Type 0) (xs : List Edge) → All P xs → All P (reverse xs)
all_reverse P xs h k d lt =
    let n : length (reverse xs) ≡ length xs = length-reverse xs in
    subst P (sym (get_or-reverse xs k d (omega arith))) (h (length xs - 1 - k) d (omega arith))

far_below : (d : EdgeDirection) (e : Edge) (n : ℕ) → (e.from < n) × (e.to < n) → far_end d e < n
far_below Outgoing e n h = h.1
far_below Incoming e n h = h.0

-- both ends of each edge at a node are nodes
pub between-at : (d : EdgeDirection) (edges : List Edge) (nodes k : ℕ) → AreBetween nodes edges → AreBetween nodes (edges_at d edges k)
between-at d edges nodes k h =
    let kept : AreBetween nodes (filter (is_at d k) edges) = All-filter (is_at d k) (λ (e : Edge). (e.from < nodes) × (e.to < nodes)) edges h in
    all_reverse (λ (e : Edge). (e.from < nodes) × (e.to < nodes)) (filter (is_at d k) edges) kept

pub below_far : (d : EdgeDirection) (edges : List Edge) (nodes : ℕ) → AreBetween nodes edges → AreBelow (far_ends d edges) nodes
below_far d edges nodes h k =
    let turned = between-at d edges nodes k h in
    All-map (λ j. j < nodes) (far_end d) (edges_at d edges k) (λ i x lt. far_below d (get_or (edges_at d edges k) i x) nodes (turned i x lt))
