-- The text of the levels that a walk keeps.
use Rattle.std.proofs.Common.{◌≡◌, ℕ, zero, suc, ◌+◌, ◌*◌, ◌<◌, ◌≤◌, Bool, true, false, List, [], ◌∷◌, ◌++◌, length, get_or, take, All, Option, None, refl, sym, ap, ◌∙◌, append_assoc, arith}
use Rattle.std.specs.Prelude.{IfSome, is_some}
use Rattle.std.proofs.lemmas.List.{append-nil, length-append}
use Rattle.std.proofs.Math.Seq.{take-suc, take-append_seam}
use Rattle.cargo_lock_graph.specs.declared.drawing.entry.Entry.{Entry}
use Rattle.cargo_lock_graph.specs.declared.graph.EdgeDirection.{EdgeDirection}
use Rattle.cargo_lock_graph.specs.Edges.{Edge}
use Rattle.cargo_lock_graph.specs.DrawingByLater.{goes_on, is_any, levels_text}
use Rattle.cargo_lock_graph.specs.DrawingText.{level_text, standard_symbols}
use Rattle.cargo_lock_graph.specs.WalkState.{HasLevels, entries_to_come, frames_text}
use Rattle.cargo_lock_graph.proofs.WalkLevels.{any_ends, coming_children}

pub frames_push : (fs : List (Option ℕ)) (f : Option ℕ) → frames_text (fs ++ f ∷ []) ≡ frames_text fs ++ level_text standard_symbols (is_some f)
frames_push [] f = append-nil (level_text standard_symbols (is_some f))
frames_push (g ∷ fs) f =
    let own : List ℕ = level_text standard_symbols (is_some g) in
    ap (λ (t : List ℕ). own ++ t) (frames_push fs f) ∙ sym (append_assoc own (frames_text fs) (level_text standard_symbols (is_some f)))

pub frames_append : (fs gs : List (Option ℕ)) → frames_text (fs ++ gs) ≡ frames_text fs ++ frames_text gs
frames_append [] gs = refl
frames_append (f ∷ fs) gs =
    let own : List ℕ = level_text standard_symbols (is_some f) in
    ap (λ (t : List ℕ). own ++ t) (frames_append fs gs) ∙ sym (append_assoc own (frames_text fs) (frames_text gs))

level_short : (more : Bool) → length (level_text standard_symbols more) ≤ 6
level_short true = omega arith
level_short false = omega arith

pub frames_short : (fs : List (Option ℕ)) → length (frames_text fs) ≤ 6 * length fs
frames_short [] = omega arith
frames_short (f ∷ fs) =
    let own : List ℕ = level_text standard_symbols (is_some f) in
    omega (arith, frames_short fs, level_short (is_some f), length-append own (frames_text fs))

-- a level goes on where its frame has an edge left
pub frame_goes_on : (d : EdgeDirection) (edges : List Edge) (marks : List Bool) (fs : List (Option ℕ)) (k : ℕ) (x : Option ℕ) → All (λ f. IfSome f (λ edge. edge < length edges)) fs → k < length fs → goes_on k (entries_to_come d edges marks fs) ≡ is_some (get_or fs k x)
frame_goes_on d edges marks fs k x known lt = ap is_any (coming_children d edges marks fs k x lt) ∙ sym (any_ends d edges (get_or fs k x) (known k x lt))

pub levels_are : (d : EdgeDirection) (edges : List Edge) (marks : List Bool) (fs : List (Option ℕ)) (k : ℕ) → All (λ f. IfSome f (λ edge. edge < length edges)) fs → k ≤ length fs → levels_text standard_symbols k (entries_to_come d edges marks fs) ≡ frames_text (take k fs)
levels_are d edges marks fs zero known le = refl
levels_are d edges marks fs (suc k) known le =
    let later : List Entry = entries_to_come d edges marks fs in
    let f : Option ℕ = get_or fs k None in
    ap (λ (t : List ℕ). t ++ level_text standard_symbols (goes_on k later)) (levels_are d edges marks fs k known (omega arith))
    ∙ ap (λ (b : Bool). frames_text (take k fs) ++ level_text standard_symbols b) (frame_goes_on d edges marks fs k None known (omega arith))
    ∙ sym (frames_push (take k fs) f)
    ∙ ap frames_text (sym (take-suc fs k None (omega arith)))

-- the levels of the first frames, if more frames are above them
pub levels_first : (d : EdgeDirection) (edges : List Edge) (marks : List Bool) (fs new more : List (Option ℕ)) → All (λ f. IfSome f (λ edge. edge < length edges)) new → new ≡ fs ++ more → levels_text standard_symbols (length fs) (entries_to_come d edges marks new) ≡ frames_text fs
levels_first d edges marks fs new more known is =
    levels_are d edges marks new (length fs) known (omega (arith, ap length is, length-append fs more))
    ∙ ap frames_text (ap (take (length fs)) is ∙ take-append_seam fs more)

pub text_first : (fs new more : List (Option ℕ)) (text : List ℕ) (above : ℕ) → text ≡ frames_text new → new ≡ fs ++ more → above ≡ length (frames_text fs) → (above ≤ length text) × (take above text ≡ frames_text fs)
text_first fs new more text above text_is is above_is =
    let all : text ≡ frames_text fs ++ frames_text more = text_is ∙ ap frames_text is ∙ frames_append fs more in (
      omega (arith, above_is, ap length all, length-append (frames_text fs) (frames_text more)),
      ap (λ (n : ℕ). take n text) above_is ∙ ap (take (length (frames_text fs))) all ∙ take-append_seam (frames_text fs) (frames_text more),
    )

-- ---- frames that come and go

pub levels_room : (nodes : ℕ) (fs : List (Option ℕ)) (text : List ℕ) (capacity : ℕ) → HasLevels nodes fs text capacity → suc (length fs) ≤ nodes → length text + 6 ≤ capacity
levels_room nodes fs text capacity h less = omega (arith, h.reserved, ap length h.text_is, frames_short fs)

pub levels_push : (nodes : ℕ) (fs new : List (Option ℕ)) (f : Option ℕ) (more : Bool) (text next : List ℕ) (capacity capacity' : ℕ) → new ≡ fs ++ f ∷ [] → more ≡ is_some f → next ≡ text ++ level_text standard_symbols more → capacity ≤ capacity' → HasLevels nodes fs text capacity → HasLevels nodes new next capacity'
levels_push nodes fs new f more text next capacity capacity' is same added le h = record {
  text_is = added ∙ ap (λ (t : List ℕ). t ++ level_text standard_symbols more) h.text_is ∙ ap (λ (b : Bool). frames_text fs ++ level_text standard_symbols b) same ∙ sym (frames_push fs f) ∙ ap frames_text (sym is);
  reserved = omega (arith, h.reserved);
}

-- the text before the level of the last frame
pub levels_before : (nodes : ℕ) (old fs : List (Option ℕ)) (f : Option ℕ) (more : Bool) (text : List ℕ) (capacity : ℕ) → old ≡ fs ++ f ∷ [] → more ≡ is_some f → HasLevels nodes old text capacity → text ≡ frames_text fs ++ level_text standard_symbols more
levels_before nodes old fs f more text capacity was same h = h.text_is ∙ ap frames_text was ∙ frames_push fs f ∙ ap (λ (b : Bool). frames_text fs ++ level_text standard_symbols b) (sym same)

pub levels_pop : (nodes : ℕ) (old fs : List (Option ℕ)) (text next : List ℕ) (capacity capacity' : ℕ) → next ≡ frames_text fs → capacity' ≡ capacity → HasLevels nodes old text capacity → HasLevels nodes fs next capacity'
levels_pop nodes old fs text next capacity capacity' is same h = record { text_is = is; reserved = omega (arith, h.reserved, same) }
