-- What the text of a drawing tells.
use Rattle.std.proofs.Common.{◌≡◌, ◌∙◌, ℕ, zero, suc, Bool, true, false, eqb, List, [], ◌∷◌, ◌++◌, map, get_or, length, slice_get, Some, codes, refl, sym, ap, subst, append_assoc, inl, inr}
use Rattle.std.specs.List.{AllByRecursion}
use Rattle.std.proofs.lemmas.Bool.{cases_Bool, eq-eqb, eqb-true}
use Rattle.std.proofs.lemmas.Option.{same_Some}
use Rattle.semver.specs.Identifiers.{parts_text}
use Rattle.cargo_lock_parts.specs.Identity.{PackageData}
use Rattle.cargo_lock_graph.specs.declared.drawing.entry.Entry.{Entry}
use Rattle.cargo_lock_graph.specs.Drawing.{Occurs, is_one_of}
use Rattle.cargo_lock_graph.specs.DrawingLines.{LabelsAreDistinct, AreLines, HasNoNewline, Tell, TellAll, cut, ended_lines}
use Rattle.cargo_lock_graph.specs.DrawingText.{SymbolTexts, depth_at, drawing_text, line_at, lines_from, prefix_at}
use Rattle.cargo_lock_graph.specs.DrawingPlaces.{no_entry}
use Rattle.cargo_lock_graph.specs.Labels.{exact_text, label_at, label_of}
use Rattle.cargo_lock_graph.proofs.DrawingLines.{among-append}
use Rattle.cargo_lock_graph.proofs.DrawingRest.{same_entry}

-- ---- one drawing

occurs-first : (e : Entry) (es : List Entry) → Occurs e.node (e ∷ es)
occurs-first e es = rw (eq-eqb e.node e.node refl) refl

occurs-later : (n : ℕ) (e : Entry) (es : List Entry) → Occurs n es → Occurs n (e ∷ es)
occurs-later n e es h = elim (cases_Bool (eqb n e.node)) [
  | inl same ↦ rw same refl
  | inr other ↦ rw other h
]

apart-later : (label : ℕ → List ℕ) (e f : Entry) (es fs : List Entry) → LabelsAreDistinct label (e ∷ es) (f ∷ fs) → LabelsAreDistinct label es fs
apart-later label e f es fs h m n in_es in_fs = h m n (occurs-later m e es in_es) (occurs-later n f fs in_fs)

one-told : (label : ℕ → List ℕ) (es fs : List Entry) (ls : List (List ℕ)) → LabelsAreDistinct label es fs → Tell label es ls → Tell label fs ls → es ≡ fs
one-told label [] [] ls apart t u = refl
one-told label [] (f ∷ fs) [] apart t u = absurd u
one-told label [] (f ∷ fs) (l ∷ ls) apart t u = absurd t
one-told label (e ∷ es) [] [] apart t u = absurd t
one-told label (e ∷ es) [] (l ∷ ls) apart t u = absurd u
one-told label (e ∷ es) (f ∷ fs) [] apart t u = absurd t
one-told label (e ∷ es) (f ∷ fs) (l ∷ ls) apart t u =
    let both = same_Some (e.depth, label e.node) (f.depth, label f.node) (sym t.0 ∙ u.0) in
    let node = apart e.node f.node (occurs-first e es) (occurs-first f fs) (λ i. (both i).1) in
    let first : e ≡ f = same_entry e f node (λ i. (both i).0) in
    let rest = one-told label es fs ls (apart-later label e f es fs apart) t.1 u.1 in
    ap (λ (x : Entry). x ∷ es) first ∙ ap (λ (xs : List Entry). f ∷ xs) rest

-- the first line tells the first node, and its depth is 0
pub all-told : (label : ℕ → List ℕ) (a b : ℕ) (es fs es' fs' : List Entry) (ls : List (List ℕ))
    → es ≡ record { node = a; depth = 0 } ∷ es' → fs ≡ record { node = b; depth = 0 } ∷ fs'
    → LabelsAreDistinct label es fs → TellAll label es ls → TellAll label fs ls → es ≡ fs
all-told label a b [] fs es' fs' ls p q apart t u = absurd cc
all-told label a b (e ∷ es) [] es' fs' ls p q apart t u = absurd cc
all-told label a b (e ∷ es) (f ∷ fs) es' fs' [] p q apart t u = absurd t
all-told label a b (e ∷ es) (f ∷ fs) es' fs' (l ∷ ls) p q apart t u =
    let x : e ≡ record { node = a; depth = 0 } = cc (p) in
    let y : f ≡ record { node = b; depth = 0 } = cc (q) in
    let depth : e.depth ≡ f.depth = ap (λ (z : Entry). z.depth) x ∙ sym (ap (λ (z : Entry). z.depth) y) in
    let node = apart e.node f.node (occurs-first e es) (occurs-first f fs) (sym t.0 ∙ u.0) in
    let rest = one-told label es fs ls (apart-later label e f es fs apart) t.1 u.1 in
    ap (λ (x : Entry). x ∷ es) (same_entry e f node depth) ∙ ap (λ (xs : List Entry). f ∷ xs) rest

-- ---- lines that are ended

ended : (acc x rest : List ℕ) → rest ≡ ended_lines (cut [] rest) → acc ++ (x ++ 10 ∷ rest) ≡ ended_lines (cut acc (x ++ 10 ∷ rest))
ended acc [] rest h = ap (λ (t : List ℕ). acc ++ 10 ∷ t) h
ended acc (y ∷ x) rest h = elim (cases_Bool (eqb y 10)) [
  | inl same ↦ rw same (ap (λ (n : ℕ). acc ++ n ∷ (x ++ 10 ∷ rest)) (eqb-true y 10 same) ∙ ap (λ (t : List ℕ). acc ++ 10 ∷ t) (ended [] x rest h))
  | inr other ↦ rw other (sym (append_assoc acc (y ∷ []) (x ++ 10 ∷ rest)) ∙ ended (acc ++ y ∷ []) x rest h)
]

lines-ended : (s : SymbolTexts) (label : ℕ → List ℕ) (es : List Entry) (k count : ℕ) → lines_from s label es k count ≡ ended_lines (cut [] (lines_from s label es k count))
lines-ended s label es k zero = refl
lines-ended s label es k (suc count) =
    let rest = lines_from s label es (suc k) count in
    let p = prefix_at s es k (depth_at es k) in
    let l = label (get_or es k no_entry).node in
    let is : line_at s label es k ++ rest ≡ (p ++ l) ++ 10 ∷ rest =
    append_assoc p (l ++ 10 ∷ []) rest ∙ ap (λ (t : List ℕ). p ++ t) (append_assoc l (10 ∷ []) rest) ∙ sym (append_assoc p l (10 ∷ rest)) in
    subst (λ (t : List ℕ). t ≡ ended_lines (cut [] t)) (sym is) (ended [] (p ++ l) rest (lines-ended s label es (suc k) count))

pub drawing_text-ended : (s : SymbolTexts) (label : ℕ → List ℕ) (es : List Entry) → drawing_text s label es ≡ ended_lines (cut [] (drawing_text s label es))
unfolding drawing_text
drawing_text-ended s label es = lines-ended s label es 0 (length es)

-- ---- labels without newlines

plain-label : (exact : Bool) (p : PackageData) → HasNoNewline p → is_one_of 10 (label_of exact p) ≡ false
plain-label true p h =
    among-append 10 (p.name ++ (codes " " ++ parts_text p.version)) (codes " " ++ exact_text p.checksum p.source)
    (among-append 10 p.name (codes " " ++ parts_text p.version) h.name (among-append 10 (codes " ") (parts_text p.version) refl h.version))
    (among-append 10 (codes " ") (exact_text p.checksum p.source) refl h.exact)
plain-label false p h =
    among-append 10 (p.name ++ (codes " " ++ parts_text p.version)) []
    (among-append 10 p.name (codes " " ++ parts_text p.version) h.name (among-append 10 (codes " ") (parts_text p.version) refl h.version)) refl

plain-at : (exact : Bool) (packages : List PackageData) (node : ℕ) → ((p : PackageData) → slice_get packages node ≡ Some p → HasNoNewline p)
    → is_one_of 10 (get_or (map (label_of exact) packages) node []) ≡ false
plain-at exact [] node h = refl
plain-at exact (p ∷ packages) zero h = plain-label exact p (h p refl)
plain-at exact (p ∷ packages) (suc node) h = plain-at exact packages node h

pub plain-lines : (exact : Bool) (packages : List PackageData) (es : List Entry)
    → AllByRecursion (λ (e : Entry). (p : PackageData) → slice_get packages e.node ≡ Some p → HasNoNewline p) es → AreLines (label_at exact packages) es
plain-lines exact packages [] h = tt
plain-lines exact packages (e ∷ es) h = (plain-at exact packages e.node h.0, plain-lines exact packages es h.1)
