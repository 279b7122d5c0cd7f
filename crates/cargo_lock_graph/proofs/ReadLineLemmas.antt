-- A line's prefix is cut off in one way only.
use Rattle.std.proofs.Common.{◌≡◌, ℕ, zero, suc, ◌<◌, ◌≤◌, Bool, true, false, List, [], ◌∷◌, ◌++◌, length, Some, refl, sym, ap, ◌∙◌, append_assoc, arith}
use Rattle.std.proofs.lemmas.List.{append-nil, length-append}
use Rattle.cargo_lock_graph.specs.declared.drawing.entry.Entry.{Entry}
use Rattle.cargo_lock_graph.specs.DrawingText.{level_text, branch_text, standard_symbols}
use Rattle.cargo_lock_graph.specs.DrawingByLater.{levels_text, goes_on, prefix_by_later}
use Rattle.cargo_lock_graph.specs.ReadLine.{deeper_by, read_levels, read_line}

abbrev flat : List Bool → List ℕ
flat [] = []
flat (b ∷ bs) = level_text standard_symbols b ++ flat bs

abbrev levels : ℕ → List Entry → List Bool
levels zero later = []
levels (suc k) later = levels k later ++ goes_on k later ∷ []

flat-append : (xs ys : List Bool) → flat (xs ++ ys) ≡ flat xs ++ flat ys
flat-append [] ys = refl
flat-append (b ∷ xs) ys = ap (λ (t : List ℕ). level_text standard_symbols b ++ t) (flat-append xs ys) ∙ sym (append_assoc (level_text standard_symbols b) (flat xs) (flat ys))

rails_flat : (k : ℕ) (later : List Entry) → levels_text standard_symbols k later ≡ flat (levels k later)
rails_flat zero later = refl
rails_flat (suc k) later =
    let last : List ℕ = level_text standard_symbols (goes_on k later) in
    ap (λ (t : List ℕ). t ++ last) (rails_flat k later) ∙ sym (flat-append (levels k later) (goes_on k later ∷ []) ∙ ap (λ (t : List ℕ). flat (levels k later) ++ t) (append-nil last))

length-levels : (k : ℕ) (later : List Entry) → length (levels k later) ≡ k
length-levels zero later = refl
length-levels (suc k) later = omega (arith, length-append (levels k later) (goes_on k later ∷ []), length-levels k later)

read_knot : (fuel : ℕ) (b : Bool) (label : List ℕ) → read_levels (suc fuel) (branch_text standard_symbols b ++ label) ≡ Some (1, label)
read_knot fuel true label = refl
read_knot fuel false label = refl

read_rail : (fuel : ℕ) (b : Bool) (line_by_later : List ℕ) → read_levels (suc fuel) (level_text standard_symbols b ++ line_by_later) ≡ deeper_by (read_levels fuel line_by_later)
read_rail fuel true line_by_later = refl
read_rail fuel false line_by_later = refl

read_flat : (bs : List Bool) (fuel : ℕ) (b : Bool) (label : List ℕ) → length bs < fuel → read_levels fuel (flat bs ++ (branch_text standard_symbols b ++ label)) ≡ Some (suc (length bs), label)
read_flat bs zero b label lt = absurd (omega arith)
read_flat [] (suc fuel) b label lt = read_knot fuel b label
read_flat (c ∷ bs) (suc fuel) b label lt =
    let tail : List ℕ = branch_text standard_symbols b ++ label in
    ap (read_levels (suc fuel)) (append_assoc (level_text standard_symbols c) (flat bs) tail) ∙ read_rail fuel c (flat bs ++ tail) ∙ ap deeper_by (read_flat bs fuel b label (omega arith))

length-rail : (b : Bool) → 0 < length (level_text standard_symbols b)
length-rail true = omega arith
length-rail false = omega arith

length-flat : (bs : List Bool) → length bs ≤ length (flat bs)
length-flat [] = omega arith
length-flat (b ∷ bs) = omega (arith, length-rail b, length-append (level_text standard_symbols b) (flat bs), length-flat bs)

length-knot : (b : Bool) → 0 < length (branch_text standard_symbols b)
length-knot true = omega arith
length-knot false = omega arith

pub line_read : (depth : ℕ) (later : List Entry) (label : List ℕ) → 0 < depth → read_line (prefix_by_later standard_symbols depth later ++ label) ≡ Some (depth, label)
unfolding read_line
line_read zero later label lt = absurd (omega arith)
line_read (suc k) later label lt =
    let b : Bool = goes_on k later in
    let bs : List Bool = levels k later in
    let tail : List ℕ = branch_text standard_symbols b ++ label in
    let is : prefix_by_later standard_symbols (suc k) later ++ label ≡ flat bs ++ tail = append_assoc (levels_text standard_symbols k later) (branch_text standard_symbols b) label ∙ ap (λ (t : List ℕ). t ++ tail) (rails_flat k later) in
    let enough : length bs < length (flat bs ++ tail) = omega (arith, length-append (flat bs) tail, length-append (branch_text standard_symbols b) label, length-knot b, length-flat bs) in
    ap (λ (t : List ℕ). read_levels (length t) t) is ∙ read_flat bs (length (flat bs ++ tail)) b label enough ∙ ap (λ (n : ℕ). Some (suc n, label)) (length-levels k later)
