-- Findings as annotations of GitHub, which the runner of GitHub Actions reads from what a step prints.
use Rattle.std.specs.Prelude.{◌≡◌, ◌==◌, ◌||◌, ◌++◌, ◌⊎◌, [], ◌∷◌, ℕ, Bool, List, All, Option, None, Some}
use Rattle.std.specs.Prelude.{codes, decimal, eqb, false, map, true}
use Rattle.std.specs.List.{flat_map, slice_split, starts_with}
use Rattle.cargo_lock_parts.specs.Ascii.{newline}
use Rattle.cargo_lock_report.specs.declared.escape.Escape.TheVariants.{Message, Property}
use Rattle.cargo_lock_report.specs.Escapes.{text_as}
use Rattle.cargo_lock_report.specs.Log.{level_word}
use Rattle.cargo_lock_report.specs.Reported.{ReportedData}

-- the property with a line behind others, if it is known
abbrev pub line_property : Option ℕ → List ℕ
line_property None = []
line_property (Some n) = codes ",line=" ++ decimal n

-- the annotation of a finding: `::error file=PATH,line=N::MESSAGE`
abbrev pub annotation_line : ReportedData → List ℕ
annotation_line f = codes "::" ++ (level_word f.level ++ (codes " file="
    ++ (text_as Property f.spot.path ++ (line_property f.spot.line
    ++ (codes "::" ++ text_as Message f.message)))))

-- the annotation of each finding, with its newline
abbrev pub annotations_text : List ReportedData → List ℕ
annotations_text = flat_map (λ f. annotation_line f ++ newline ∷ [])

-- ---- laws

-- the byte ends a line: it is a newline or a carriage return
abbrev pub ends_line : ℕ → Bool
ends_line c = c == 10 || c == 13

-- what is printed is exactly one line for each finding, in order, whatever paths and messages hold:
-- cut at each newline and carriage return it is the annotations, and nothing behind the last newline
abbrev pub EachAnnotationIsOneLine : Type 0
EachAnnotationIsOneLine = (findings : List ReportedData)
    → slice_split ends_line (annotations_text findings) ≡ map annotation_line findings ++ [] ∷ []

-- each line begins with a command of ours, so no text of a stranger begins one
abbrev pub EachLineIsOwn : Type 0
EachLineIsOwn = (f : ReportedData)
    → (starts_with eqb (annotation_line f) (codes "::error file=") ≡ true)
    ⊎ (starts_with eqb (annotation_line f) (codes "::warning file=") ≡ true)

-- the byte ends a property: it is a colon or a comma
abbrev pub ends_property : ℕ → Bool
ends_property b = b == 58 || b == 44

-- no colon and no comma is in a property, so none of its text is taken for another property or for
-- the message
abbrev pub PropertiesAreApart : Type 0
PropertiesAreApart = (text : List ℕ) → All (λ b. ends_property b ≡ false) (text_as Property text)
