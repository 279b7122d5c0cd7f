-- The text of a drawing is one line an entry.
use Rattle.std.proofs.Common.{◌≡◌, ℕ, zero, suc, Bool, true, false, eqb, List, [], ◌∷◌, ◌++◌, refl, sym, ap, subst, ◌∙◌, append_assoc, inl, inr}
use Rattle.std.proofs.lemmas.Bool.{or_parts, or_from, cases_eq, eq-eqb, ne_eqb}
use Rattle.std.proofs.lemmas.List.{append-nil}
use Rattle.cargo_lock_graph.specs.declared.drawing.entry.Entry.{Entry}
use Rattle.cargo_lock_graph.specs.Drawing.{is_one_of}
use Rattle.cargo_lock_graph.specs.DrawingSteps.{AreSteps, DrawsFrom}
use Rattle.cargo_lock_graph.specs.DrawingText.{level_text, branch_text, standard_symbols}
use Rattle.cargo_lock_graph.specs.DrawingByLater.{levels_text, goes_on, prefix_by_later, line_by_later, drawn_by_later}
use Rattle.cargo_lock_graph.specs.DrawingLines.{cut, AreLines, Tell, TellAll}
use Rattle.cargo_lock_graph.specs.DrawingLaws.{TextTellsDrawing}
use Rattle.cargo_lock_graph.proofs.DrawingWords.{from_words}
use Rattle.cargo_lock_graph.proofs.PrefixLemmas.{drawn_same}
use Rattle.cargo_lock_graph.proofs.ReadLineLemmas.{line_read}

eqb_turn : (a b : ℕ) → eqb a b ≡ eqb b a
eqb_turn a b =
    elim (cases_eq a b) [
      | inl same ↦ eq-eqb a b same ∙ sym (eq-eqb b a (sym same))
      | inr other ↦ ne_eqb a b other ∙ sym (ne_eqb b a (λ same. other (sym same)))
    ]

cut_one : (acc x rest : List ℕ) → is_one_of 10 x ≡ false → cut acc (x ++ 10 ∷ rest) ≡ (acc ++ x) ∷ cut [] rest
cut_one acc [] rest h = ap (λ (l : List ℕ). l ∷ cut [] rest) (sym (append-nil acc))
cut_one acc (y ∷ x) rest h =
    let p = or_parts (eqb 10 y) (is_one_of 10 x) h in
    let other : eqb y 10 ≡ false = eqb_turn y 10 ∙ p.0 in
    rw other (cut_one (acc ++ y ∷ []) x rest p.1 ∙ ap (λ (l : List ℕ). l ∷ cut [] rest) (append_assoc acc (y ∷ []) x))

pub among-append : (n : ℕ) (x y : List ℕ) → is_one_of n x ≡ false → is_one_of n y ≡ false → is_one_of n (x ++ y) ≡ false
among-append n [] y h k = k
among-append n (z ∷ x) y h k = let p = or_parts (eqb n z) (is_one_of n x) h in or_from (eqb n z) (is_one_of n (x ++ y)) p.0 (among-append n x y p.1 k)

rail_plain : (b : Bool) → is_one_of 10 (level_text standard_symbols b) ≡ false
rail_plain true = refl
rail_plain false = refl

knot_plain : (b : Bool) → is_one_of 10 (branch_text standard_symbols b) ≡ false
knot_plain true = refl
knot_plain false = refl

rails_plain : (k : ℕ) (later : List Entry) → is_one_of 10 (levels_text standard_symbols k later) ≡ false
rails_plain zero later = refl
rails_plain (suc k) later = among-append 10 (levels_text standard_symbols k later) (level_text standard_symbols (goes_on k later)) (rails_plain k later) (rail_plain (goes_on k later))

prefix_plain : (k : ℕ) (later : List Entry) → is_one_of 10 (prefix_by_later standard_symbols k later) ≡ false
prefix_plain zero later = refl
prefix_plain (suc k) later = among-append 10 (levels_text standard_symbols k later) (branch_text standard_symbols (goes_on k later)) (rails_plain k later) (knot_plain (goes_on k later))

cut_line : (label : ℕ → List ℕ) (e : Entry) (later : List Entry) (rest : List ℕ) → is_one_of 10 (label e.node) ≡ false → cut [] (line_by_later standard_symbols label e later ++ rest) ≡ (prefix_by_later standard_symbols e.depth later ++ label e.node) ∷ cut [] rest
cut_line label e later rest h =
    let p : List ℕ = prefix_by_later standard_symbols e.depth later in
    let is : line_by_later standard_symbols label e later ++ rest ≡ (p ++ label e.node) ++ 10 ∷ rest =
    append_assoc p (label e.node ++ 10 ∷ []) rest ∙ ap (λ (t : List ℕ). p ++ t) (append_assoc (label e.node) (10 ∷ []) rest) ∙ sym (append_assoc p (label e.node) (10 ∷ rest)) in
    ap (cut []) is ∙ cut_one [] (p ++ label e.node) rest (among-append 10 p (label e.node) (prefix_plain e.depth later) h)

tell_later : (label : ℕ → List ℕ) (before : ℕ) (es : List Entry) → AreSteps before es → AreLines label es → Tell label es (cut [] (drawn_by_later standard_symbols label es))
tell_later label before [] s h = tt
tell_later label before (e ∷ es) s h =
    subst (Tell label (e ∷ es)) (sym (cut_line label e es (drawn_by_later standard_symbols label es) h.0))
    (line_read e.depth es (label e.node) s.0, tell_later label e.depth es s.2 h.1)

pub tell_all : (far : ℕ → List ℕ) (start : ℕ) (label : ℕ → List ℕ) (es : List Entry) → DrawsFrom far start es → AreLines label es → TellAll label es (cut [] (drawn_by_later standard_symbols label es))
tell_all far start label [] d h = absurd d
tell_all far start label (e ∷ es) d h =
    subst (TellAll label (e ∷ es)) (sym (cut_line label e es (drawn_by_later standard_symbols label es) h.0))
    (ap (λ (k : ℕ). prefix_by_later standard_symbols k es ++ label e.node) d.1, tell_later label 0 es d.2 h.1)

-- the text of a drawing tells it
pub told_of : TextTellsDrawing
told_of far start label es d plain =
    let steps = from_words far start es d in
    subst (λ (t : List ℕ). TellAll label es (cut [] t)) (sym (drawn_same far start es standard_symbols label steps)) (tell_all far start label es steps plain)
