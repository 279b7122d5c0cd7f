-- The text of a picture reads back.
use Rattle.std.proofs.Common.{◌≡◌, ◌∙◌, ◌<◌, ◌≤◌, ◌^◌, ◌++◌, ◌∷◌, [], ℕ, zero, suc, Bool, true, false, if◌then◌else◌, List, Option, Some, None, append-nil, append_assoc, ap, arith, codes, decimal, length, map, refl, slice_get, sym}
use Rattle.std.specs.Prelude.{All}
use Rattle.std.specs.Char.{is_ascii_digit}
use Rattle.std.specs.List.{filter_map, flat_map}
use Rattle.std.specs.Str.Parse.{AllDigits, digits_value}
use Rattle.std.proofs.lemmas.Fmt.{decimal_is_IsNumeral}
use Rattle.std.proofs.lemmas.Grind.{flat_map-append}
use Rattle.std.proofs.lemmas.List.Elements.{All-head, All-tail, filter_map-append}
use Rattle.std.proofs.lemmas.Str.Parse.{digit_from_value}
use Rattle.cargo_lock_parts.specs.Identity.{PackageData}
use Rattle.cargo_lock_diagram.specs.Diagram.{after_label, arrow_line, arrow_sign, before_label, closing_line, diagram_text, first_line, node_line, shape_of}
use Rattle.cargo_lock_display.proofs.Printed.{named-prints}
use Rattle.cargo_lock_display.specs.Line.{named_text}
use Rattle.cargo_lock_diagram.specs.Labels.{escaped, with_byte}
use Rattle.cargo_lock_diagram.specs.Pictures.{EdgeOf, NodeOf, PictureIsRead, Said, behind, cut_digits, leading_number, read_picture, read_picture_line, said_of}
use Rattle.cargo_lock_diagram.specs.declared.diagram.Shape.{Shape}
use Rattle.cargo_lock_diagram.specs.declared.diagram.Shape.TheVariants.{Hexagon, Rectangle, Rounded}
use Rattle.cargo_lock_diagram.specs.declared.label.Target.{Target}
use Rattle.cargo_lock_diagram.specs.declared.label.Target.TheVariants.{Dot, Mermaid}
use Rattle.cargo_lock_diagram.specs.declared.scene.Arrow.{Arrow}
use Rattle.cargo_lock_diagram.proofs.DiagramLines.{before-prints, escaped-prints, sign-prints}
use Rattle.printing.proofs.LinesOf.{each-is-line}
use Rattle.printing.proofs.Printable.{Prints, decimal-prints, join, literal, words}
use Rattle.printing.specs.Laws.{newline}

-- ---- numbers

-- the text does not go on with a digit
abbrev ends : List ℕ → Bool
ends [] = true
ends (c ∷ cs) = if is_ascii_digit c then false else true

digit-is : (c : ℕ) → AllDigits 10 (c ∷ []) → is_ascii_digit c ≡ true
digit-is c d = let range = digit_from_value c d.0 in grind arith

no-digit : (b : Bool) (cut whole : List ℕ × List ℕ) → (if b then false else true) ≡ true → (if b then cut else whole) ≡ whole
no-digit true cut whole e = cc e
no-digit false cut whole e = refl

cut-none : (rest : List ℕ) → ends rest ≡ true → cut_digits rest ≡ ([], rest)
cut-none [] h = refl
cut-none (c ∷ cs) h = no-digit (is_ascii_digit c) (with_byte c (cut_digits cs)) ([], c ∷ cs) h

cut-digits : (ds rest : List ℕ) → AllDigits 10 ds → ends rest ≡ true → cut_digits (ds ++ rest) ≡ (ds, rest)
cut-digits [] rest d h = cut-none rest h
cut-digits (c ∷ cs) rest d h = rw (digit-is c (d.0, tt)) (ap (with_byte c) (cut-digits cs rest d.1 h))

cut-decimal : (n : ℕ) (rest : List ℕ) → n < 2 ^ 64 → ends rest ≡ true → cut_digits (decimal n ++ rest) ≡ (decimal n, rest)
cut-decimal n rest low h = cut-digits (decimal n) rest (decimal_is_IsNumeral n low).0.1 h

number-behind : (n : ℕ) (rest : List ℕ) → n < 2 ^ 64 → ends rest ≡ true → leading_number (decimal n ++ rest) ≡ n
number-behind n rest low h = ap (λ (cut : List ℕ × List ℕ). digits_value 10 cut.0) (cut-decimal n rest low h) ∙ (decimal_is_IsNumeral n low).1

number-alone : (n : ℕ) → n < 2 ^ 64 → leading_number (decimal n) ≡ n
number-alone n low = ap leading_number (sym (append-nil (decimal n))) ∙ number-behind n [] low refl

-- ---- lines without their newlines

data Line : Type 0 where
  First : Line
  Node : ℕ → PackageData → Line
  Edge : Arrow → Line
  Last : Line

abbrev end_of : Target → Shape → List ℕ
end_of Dot Rectangle = codes "\" shape=box]"
end_of Dot Hexagon = codes "\" shape=hexagon]"
end_of Dot Rounded = codes "\" shape=ellipse]"
end_of Mermaid Rectangle = codes "\"]"
end_of Mermaid Hexagon = codes "\"}}"
end_of Mermaid Rounded = codes "\"])"

-- the label and what is around it
abbrev labelled : Target → PackageData → List ℕ
labelled target p = before_label target (shape_of p.source) ++ (escaped target (named_text p) ++ end_of target (shape_of p.source))

abbrev body : Target → Line → List ℕ
body Dot First = codes "digraph {"
body Mermaid First = codes "flowchart TD"
body target (Node node p) = codes "  n" ++ (decimal node ++ labelled target p)
body target (Edge arrow) = codes "  n" ++ (decimal arrow.from ++ (arrow_sign target ++ decimal arrow.to))
body target Last = codes "}"

end-prints : (target : Target) (shape : Shape) → Prints (end_of target shape)
end-prints Dot Rectangle = literal (codes "\" shape=box]") refl
end-prints Dot Hexagon = literal (codes "\" shape=hexagon]") refl
end-prints Dot Rounded = literal (codes "\" shape=ellipse]") refl
end-prints Mermaid Rectangle = literal (codes "\"]") refl
end-prints Mermaid Hexagon = literal (codes "\"}}") refl
end-prints Mermaid Rounded = literal (codes "\"])") refl

body-prints : (target : Target) (line : Line) → Prints (body target line)
body-prints Dot First = literal (codes "digraph {") refl
body-prints Mermaid First = literal (codes "flowchart TD") refl
body-prints Dot (Node node p) =
    words (codes "  n") refl (join (decimal-prints node) (join (before-prints Dot (shape_of p.source)) (join (escaped-prints Dot (named_text p) (named-prints p).all) (end-prints Dot (shape_of p.source)))))
body-prints Mermaid (Node node p) =
    words (codes "  n") refl (join (decimal-prints node) (join (before-prints Mermaid (shape_of p.source)) (join (escaped-prints Mermaid (named_text p) (named-prints p).all) (end-prints Mermaid (shape_of p.source)))))
body-prints Dot (Edge arrow) = words (codes "  n") refl (join (decimal-prints arrow.from) (join (sign-prints Dot) (decimal-prints arrow.to)))
body-prints Mermaid (Edge arrow) = words (codes "  n") refl (join (decimal-prints arrow.from) (join (sign-prints Mermaid) (decimal-prints arrow.to)))
body-prints Dot Last = literal (codes "}") refl
body-prints Mermaid Last = literal (codes "}") refl

-- ---- what a line says

labelled-ends : (target : Target) (shape : Shape) (more : List ℕ) → ends (before_label target shape ++ more) ≡ true
labelled-ends Dot shape more = refl
labelled-ends Mermaid Rectangle more = refl
labelled-ends Mermaid Hexagon more = refl
labelled-ends Mermaid Rounded more = refl

labelled-other : (target : Target) (shape : Shape) (more : List ℕ) → behind (arrow_sign target) (before_label target shape ++ more) ≡ None
labelled-other Dot shape more = refl
labelled-other Mermaid Rectangle more = refl
labelled-other Mermaid Hexagon more = refl
labelled-other Mermaid Rounded more = refl

sign-ends : (target : Target) (more : List ℕ) → ends (arrow_sign target ++ more) ≡ true
sign-ends Dot more = refl
sign-ends Mermaid more = refl

sign-behind : (target : Target) (more : List ℕ) → behind (arrow_sign target) (arrow_sign target ++ more) ≡ Some more
sign-behind Dot more = refl
sign-behind Mermaid more = refl

-- what is said of a text behind the mark of a node
abbrev said_in : Target → List ℕ → Said
said_in target text = said_of (leading_number text) (behind (arrow_sign target) (cut_digits text).1)

node-said : (target : Target) (node : ℕ) (p : PackageData) → node < 2 ^ 64 → said_in target (decimal node ++ labelled target p) ≡ NodeOf node
node-said target node p low =
    let shape : Shape = shape_of p.source in
    let more : List ℕ = escaped target (named_text p) ++ end_of target shape in
    let rest : List ℕ = labelled target p in
    let none = labelled-ends target shape more in
    ap (λ (n : ℕ). said_of n (behind (arrow_sign target) (cut_digits (decimal node ++ rest)).1)) (number-behind node rest low none)
    ∙ ap (λ (cut : List ℕ × List ℕ). said_of node (behind (arrow_sign target) cut.1)) (cut-decimal node rest low none)
    ∙ ap (said_of node) (labelled-other target shape more)

edge-said : (target : Target) (arrow : Arrow) → arrow.from < 2 ^ 64 → arrow.to < 2 ^ 64
    → said_in target (decimal arrow.from ++ (arrow_sign target ++ decimal arrow.to)) ≡ EdgeOf arrow.from arrow.to
edge-said target arrow low high =
    let rest : List ℕ = arrow_sign target ++ decimal arrow.to in
    let none = sign-ends target (decimal arrow.to) in
    ap (λ (n : ℕ). said_of n (behind (arrow_sign target) (cut_digits (decimal arrow.from ++ rest)).1)) (number-behind arrow.from rest low none)
    ∙ ap (λ (cut : List ℕ × List ℕ). said_of arrow.from (behind (arrow_sign target) cut.1)) (cut-decimal arrow.from rest low none)
    ∙ ap (said_of arrow.from) (sign-behind target (decimal arrow.to))
    ∙ ap (EdgeOf arrow.from) (number-alone arrow.to high)

node-read : (target : Target) (node : ℕ) (p : PackageData) → node < 2 ^ 64 → read_picture_line target (body target (Node node p)) ≡ Some (NodeOf node)
node-read Dot node p low = ap Some (node-said Dot node p low)
node-read Mermaid node p low = ap Some (node-said Mermaid node p low)

edge-read : (target : Target) (arrow : Arrow) → arrow.from < 2 ^ 64 → arrow.to < 2 ^ 64 → read_picture_line target (body target (Edge arrow)) ≡ Some (EdgeOf arrow.from arrow.to)
edge-read Dot arrow low high = ap Some (edge-said Dot arrow low high)
edge-read Mermaid arrow low high = ap Some (edge-said Mermaid arrow low high)

-- ---- all lines

-- lines, each with its newline
abbrev text_of : Target → List Line → List ℕ
text_of target ls = flat_map (λ l. body target l ++ newline ∷ []) ls

-- what they say
abbrev said_by : Target → List Line → List Said
said_by target ls = filter_map (λ l. read_picture_line target (body target l)) ls

filter-next : {X Y : Type 0} (h : X → Option Y) (x : X) (xs : List X) (y : Y) → h x ≡ Some y → filter_map h (x ∷ xs) ≡ y ∷ filter_map h xs
filter-next h x xs y e = rw e refl

filter-each : {X Y Z : Type 0} (h : Y → Option Z) (f : X → Y) (xs : List X) → filter_map h (map f xs) ≡ filter_map (λ x. h (f x)) xs
filter-each h f [] = refl
filter-each h f (x ∷ xs) = rw (filter-each h f xs) refl

said-next : (target : Target) (l : Line) (ls : List Line) (s : Said) → read_picture_line target (body target l) ≡ Some s → said_by target (l ∷ ls) ≡ s ∷ said_by target ls
said-next target l ls s e = filter-next (λ m. read_picture_line target (body target m)) l ls s e

end-line : (target : Target) (shape : Shape) → end_of target shape ++ newline ∷ [] ≡ after_label target shape
end-line Dot Rectangle = refl
end-line Dot Hexagon = refl
end-line Dot Rounded = refl
end-line Mermaid Rectangle = refl
end-line Mermaid Hexagon = refl
end-line Mermaid Rounded = refl

five-joined : (a b c d e n : List ℕ) → (a ++ (b ++ (c ++ (d ++ e)))) ++ n ≡ a ++ (b ++ (c ++ (d ++ (e ++ n))))
five-joined a b c d e n = simp append_assoc

four-joined : (a b c d n : List ℕ) → (a ++ (b ++ (c ++ d))) ++ n ≡ a ++ (b ++ (c ++ (d ++ n)))
four-joined a b c d n = simp append_assoc

some-at : {X : Type 0} (xs : List X) (k : ℕ) → k < length xs → (x : X) × (slice_get xs k ≡ Some x)
some-at [] k low = absurd (omega (arith, low))
some-at (x ∷ xs) zero low = (x, refl)
some-at (x ∷ xs) (suc k) low = some-at xs k (omega (arith, low))

node-text : (target : Target) (packages : List PackageData) (node : ℕ) (p : PackageData) → slice_get packages node ≡ Some p
    → body target (Node node p) ++ newline ∷ [] ≡ node_line target packages node
node-text Dot packages node p at =
    let shape : Shape = shape_of p.source in
    rw at (five-joined (codes "  n") (decimal node) (before_label Dot shape) (escaped Dot (named_text p)) (end_of Dot shape) (newline ∷ [])
    ∙ ap (λ (end : List ℕ). codes "  n" ++ (decimal node ++ (before_label Dot shape ++ (escaped Dot (named_text p) ++ end)))) (end-line Dot shape))
node-text Mermaid packages node p at =
    let shape : Shape = shape_of p.source in
    rw at (five-joined (codes "  n") (decimal node) (before_label Mermaid shape) (escaped Mermaid (named_text p)) (end_of Mermaid shape) (newline ∷ [])
    ∙ ap (λ (end : List ℕ). codes "  n" ++ (decimal node ++ (before_label Mermaid shape ++ (escaped Mermaid (named_text p) ++ end)))) (end-line Mermaid shape))

edge-text : (target : Target) (arrow : Arrow) → body target (Edge arrow) ++ newline ∷ [] ≡ arrow_line target arrow
edge-text Dot arrow = four-joined (codes "  n") (decimal arrow.from) (arrow_sign Dot) (decimal arrow.to) (newline ∷ [])
edge-text Mermaid arrow = four-joined (codes "  n") (decimal arrow.from) (arrow_sign Mermaid) (decimal arrow.to) (newline ∷ [])

-- lines with this text that say this
record AreLines (target : Target) (text : List ℕ) (said : List Said) : Type 0 where
  these : List Line
  text_is : text_of target these ≡ text
  said_is : said_by target these ≡ said

node-lines : (target : Target) (packages : List PackageData) (nodes : List ℕ) → length packages ≤ 2 ^ 64 → All (λ k. k < length packages) nodes
    → AreLines target (flat_map (node_line target packages) nodes) (map NodeOf nodes)
node-lines target packages [] few low = record { these = []; text_is = refl; said_is = refl }
node-lines target packages (k ∷ ks) few low =
    let here : k < length packages = All-head (λ n. n < length packages) k ks low in
    let (p, at) = some-at packages k here in
    let rest = node-lines target packages ks few (All-tail (λ n. n < length packages) k ks low) in
    record {
      these = Node k p ∷ rest.these;
      text_is = ap (λ (text : List ℕ). text ++ text_of target rest.these) (node-text target packages k p at) ∙ ap (λ (text : List ℕ). node_line target packages k ++ text) rest.text_is;
      said_is = said-next target (Node k p) rest.these (NodeOf k) (node-read target k p (omega (arith, here, few))) ∙ ap (λ (said : List Said). NodeOf k ∷ said) rest.said_is;
    }

edge-lines : (target : Target) (count : ℕ) (arrows : List Arrow) → count ≤ 2 ^ 64 → All (λ a. (a.from < count) × (a.to < count)) arrows
    → AreLines target (flat_map (arrow_line target) arrows) (map (λ a. EdgeOf a.from a.to) arrows)
edge-lines target count [] few low = record { these = []; text_is = refl; said_is = refl }
edge-lines target count (a ∷ arrows) few low =
    let here = All-head (λ b. (b.from < count) × (b.to < count)) a arrows low in
    let from = here.0 in
    let to = here.1 in
    let rest = edge-lines target count arrows few (All-tail (λ b. (b.from < count) × (b.to < count)) a arrows low) in
    record {
      these = Edge a ∷ rest.these;
      text_is = ap (λ (text : List ℕ). text ++ text_of target rest.these) (edge-text target a) ∙ ap (λ (text : List ℕ). arrow_line target a ++ text) rest.text_is;
      said_is = said-next target (Edge a) rest.these (EdgeOf a.from a.to) (edge-read target a (omega (arith, from, few)) (omega (arith, to, few))) ∙ ap (λ (said : List Said). EdgeOf a.from a.to ∷ said) rest.said_is;
    }

both-lines : (target : Target) (a b : List ℕ) (x y : List Said) → AreLines target a x → AreLines target b y → AreLines target (a ++ b) (x ++ y)
both-lines target a b x y ha hb = record {
  these = ha.these ++ hb.these;
  text_is = flat_map-append (λ l. body target l ++ newline ∷ []) ha.these hb.these ∙ ap (λ (text : List ℕ). text ++ text_of target hb.these) ha.text_is ∙ ap (λ (text : List ℕ). a ++ text) hb.text_is;
  said_is = filter_map-append (λ l. read_picture_line target (body target l)) ha.these hb.these ∙ ap (λ (said : List Said). said ++ said_by target hb.these) ha.said_is ∙ ap (λ (said : List Said). x ++ said) hb.said_is;
}

first-lines : (target : Target) → AreLines target (first_line target) []
first-lines Dot = record { these = First ∷ []; text_is = refl; said_is = refl }
first-lines Mermaid = record { these = First ∷ []; text_is = refl; said_is = refl }

last-lines : (target : Target) → AreLines target (closing_line target) []
last-lines Dot = record { these = Last ∷ []; text_is = refl; said_is = refl }
last-lines Mermaid = record { these = []; text_is = refl; said_is = refl }

read-lines : (target : Target) (text : List ℕ) (said : List Said) → AreLines target text said → read_picture target text ≡ said
read-lines target text said h =
    ap (read_picture target) (sym h.text_is)
    ∙ ap (filter_map (read_picture_line target)) (each-is-line (body target) (body-prints target) h.these)
    ∙ filter-each (read_picture_line target) (body target) h.these ∙ h.said_is

pub picture-read : PictureIsRead
picture-read target packages nodes arrows few low ends =
    let edges = both-lines target _ _ _ _ (edge-lines target (length packages) arrows few ends) (last-lines target) in
    let all = both-lines target _ _ _ _ (first-lines target) (both-lines target _ _ _ _ (node-lines target packages nodes few low) edges) in
    read-lines target (diagram_text target packages nodes arrows) _ all
    ∙ ap (λ (said : List Said). map NodeOf nodes ++ said) (append-nil (map (λ a. EdgeOf a.from a.to) arrows))
