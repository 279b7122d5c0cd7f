-- Each package and each edge of a picture is one line.
use Rattle.std.proofs.Common.{◌≡◌, ◌∙◌, ◌==◌, ◌++◌, ◌∷◌, [], ◌||◌, ℕ, Bool, true, false, if◌then◌else◌, List, codes, append_assoc, ap, refl, sym, arith}
use Rattle.std.specs.Prelude.{decimal}
use Rattle.std.specs.Int.{IsInRange}
use Rattle.std.specs.List.{flat_map}
use Rattle.std.specs.Str.{chars}
use Rattle.std.proofs.lemmas.List.Elements.{All-head, All-tail}
use Rattle.std.proofs.lemmas.Str.{chars-IsAscii, encode_ascii}
use Rattle.cargo_lock_diagram.specs.Diagram.{after_label, arrow_sign, before_label, shape_of}
use Rattle.cargo_lock_display.proofs.Printed.{named-prints}
use Rattle.cargo_lock_display.specs.Line.{named_text}
use Rattle.cargo_lock_diagram.specs.DiagramLaws.{EachArrowIsOneLine, EachPackageIsOneLine}
use Rattle.cargo_lock_diagram.specs.Labels.{ampersand, escaped, escaped_char, is_plain, label_quote}
use Rattle.cargo_lock_diagram.specs.declared.diagram.Shape.{Shape}
use Rattle.cargo_lock_diagram.specs.declared.diagram.Shape.TheVariants.{Hexagon, Rectangle, Rounded}
use Rattle.cargo_lock_diagram.specs.declared.label.Target.{Target}
use Rattle.cargo_lock_diagram.specs.declared.label.Target.TheVariants.{Dot, Mermaid}
use Rattle.cargo_lock_diagram.proofs.Quoting.{printable-ascii}
use Rattle.printing.proofs.Printable.{Prints, cons, decimal-prints, either_text, empty, join, join_each, literal, words}
use Rattle.printing.specs.Laws.{IsPrintable, newline}
use Rattle.printing.specs.Shown.{backslash}

-- ---- labels

byte-prints : (b : ℕ) → IsInRange 0x20 0x7E b → Prints (escaped_char Dot b)
byte-prints b range =
    let one : Prints (b ∷ []) = cons b [] range empty in
    rw (encode_ascii b (omega arith)) (either_text (b == label_quote || b == backslash) (words (codes "\\") refl one) (either_text (b == ampersand) (literal (codes "&amp;") refl) one))

bytes-print : (text : List ℕ) → IsPrintable text → Prints (flat_map (escaped_char Dot) text)
bytes-print [] h = empty
bytes-print (b ∷ bs) h = join (byte-prints b (All-head (IsInRange 0x20 0x7E) b bs h)) (bytes-print bs (All-tail (IsInRange 0x20 0x7E) b bs h))

plain-range : (c : ℕ) → is_plain c ≡ true → IsInRange 0x20 0x7E c
plain-range c h = grind arith

plain-prints : (c : ℕ) (b : Bool) → (b ≡ true → IsInRange 0x20 0x7E c) → Prints (if b then c ∷ [] else codes "#" ++ (decimal c ++ codes ";"))
plain-prints c true h = cons c [] (h refl) empty
plain-prints c false h = words (codes "#") refl (join (decimal-prints c) (literal (codes ";") refl))

pub escaped-prints : (target : Target) (text : List ℕ) → IsPrintable text → Prints (escaped target text)
unfolding escaped
escaped-prints Dot text h = rw (chars-IsAscii text (printable-ascii text h)) (bytes-print text h)
escaped-prints Mermaid text h = join_each (escaped_char Mermaid) (λ c. plain-prints c (is_plain c) (plain-range c)) (chars text)

-- ---- lines

pub before-prints : (target : Target) (shape : Shape) → Prints (before_label target shape)
before-prints Dot shape = literal (codes " [label=\"") refl
before-prints Mermaid Rectangle = literal (codes "[\"") refl
before-prints Mermaid Hexagon = literal (codes "{{\"") refl
before-prints Mermaid Rounded = literal (codes "([\"") refl

-- what is after a label ends with the newline
after-one : (target : Target) (shape : Shape) → (body : List ℕ) × Prints body × (after_label target shape ≡ body ++ newline ∷ [])
after-one Dot Rectangle = (codes "\" shape=box]", literal (codes "\" shape=box]") refl, refl)
after-one Dot Hexagon = (codes "\" shape=hexagon]", literal (codes "\" shape=hexagon]") refl, refl)
after-one Dot Rounded = (codes "\" shape=ellipse]", literal (codes "\" shape=ellipse]") refl, refl)
after-one Mermaid Rectangle = (codes "\"]", literal (codes "\"]") refl, refl)
after-one Mermaid Hexagon = (codes "\"}}", literal (codes "\"}}") refl, refl)
after-one Mermaid Rounded = (codes "\"])", literal (codes "\"])") refl, refl)

pub sign-prints : (target : Target) → Prints (arrow_sign target)
sign-prints Dot = literal (codes " -> n") refl
sign-prints Mermaid = literal (codes " --> n") refl

five-joined : (a b c d e n : List ℕ) → a ++ (b ++ (c ++ (d ++ (e ++ n)))) ≡ (a ++ (b ++ (c ++ (d ++ e)))) ++ n
five-joined a b c d e n = sym (simp append_assoc)

four-joined : (a b c d n : List ℕ) → a ++ (b ++ (c ++ (d ++ n))) ≡ (a ++ (b ++ (c ++ d))) ++ n
four-joined a b c d n = sym (simp append_assoc)

pub package-line : EachPackageIsOneLine
package-line target node p =
    let shape : Shape = shape_of p.source in
    let (end, prints, is) = after-one target shape in
    let label : List ℕ = escaped target (named_text p) in
    let before : List ℕ = before_label target shape in
    let body : Prints (codes "  n" ++ (decimal node ++ (before ++ (label ++ end)))) =
    words (codes "  n") refl (join (decimal-prints node) (join (before-prints target shape) (join (escaped-prints target (named_text p) (named-prints p).all) prints))) in (
      codes "  n" ++ (decimal node ++ (before ++ (label ++ end))),
      body.all,
      ap (λ bs. codes "  n" ++ (decimal node ++ (before ++ (label ++ bs)))) is ∙ five-joined (codes "  n") (decimal node) before label end (newline ∷ []),
    )

pub arrow-line : EachArrowIsOneLine
arrow-line target arrow =
    let body : Prints (codes "  n" ++ (decimal arrow.from ++ (arrow_sign target ++ decimal arrow.to))) =
    words (codes "  n") refl (join (decimal-prints arrow.from) (join (sign-prints target) (decimal-prints arrow.to))) in (
      codes "  n" ++ (decimal arrow.from ++ (arrow_sign target ++ decimal arrow.to)),
      body.all,
      four-joined (codes "  n") (decimal arrow.from) (arrow_sign target) (decimal arrow.to) (newline ∷ []),
    )
