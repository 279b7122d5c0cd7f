-- Each verdict, each judgement and each part that was said in vain is one line: each part of it is printable.
use Rattle.std.proofs.Common.{◌≡◌, ◌∙◌, ◌++◌, ◌∷◌, [], List, ℕ, None, Some, ap, codes, map, refl, sym}
use Rattle.std.specs.List.{flat_map}
use Rattle.std.specs.Str.Lines.{lines}
use Rattle.std.proofs.lemmas.Grind.{flat_map-append}
use Rattle.cargo_lock_parts.specs.Ascii.{newline}
use Rattle.printing.specs.declared.form.Form.TheVariants.{Quoted}
use Rattle.printing.proofs.LinesOf.{each-is-line}
use Rattle.printing.proofs.Printable.{Prints, join, literal, shown-prints, words}
use Rattle.cargo_lock_display.proofs.Printed.{package-prints}
use Rattle.cargo_lock_licenses.specs.Lines.{EachVerdictIsOneLine, verdict_line}
use Rattle.cargo_lock_licenses.specs.Judged.{Given, JudgedData, Manifests, WordData, judged_line, worded}
use Rattle.cargo_lock_licenses.specs.Report.{EachIsOneLine, Term, UnmetData, Words, vain_line}
use Rattle.cargo_lock_licenses.specs.Verdicts.{Allowed, Differ, NoExpression, NoLicense, NoManifest, NotAllowed, OnlyFile, VerdictData}

line-prints : (v : VerdictData) → Prints (verdict_line v)
line-prints (Allowed p text) = join (package-prints p) (words (codes ": ") refl (shown-prints Quoted text))
line-prints (NotAllowed p text) = words (codes "! ") refl (join (package-prints p) (words (codes ": ") refl
    (join (shown-prints Quoted text) (literal (codes " is not allowed") refl))))
line-prints (NoExpression p text) = words (codes "! ") refl (join (package-prints p) (words (codes ": `") refl
    (join (shown-prints Quoted text) (literal (codes "` is no expression") refl))))
line-prints (OnlyFile p path) = words (codes "! ") refl (join (package-prints p) (words (codes ": only a file: `") refl
    (join (shown-prints Quoted path) (literal (codes "`") refl))))
line-prints (NoLicense p) = words (codes "! ") refl (join (package-prints p) (words (codes ": ") refl (literal (codes "no licence") refl)))
line-prints (NoManifest p) = words (codes "! ") refl (join (package-prints p) (words (codes ": ") refl (literal (codes "no manifest") refl)))
line-prints (Differ p) = words (codes "! ") refl (join (package-prints p) (words (codes ": ") refl (literal (codes "manifests differ") refl)))

pub each-is-one-line : EachVerdictIsOneLine
each-is-one-line found = each-is-line verdict_line line-prints found

worded-prints : (line : List ℕ) (w : WordData) → Prints line → Prints (worded line w)
worded-prints line Manifests prints = prints
worded-prints line (Given None) prints = join prints (literal (codes " (given)") refl)
worded-prints line (Given (Some text)) prints = join prints (words (codes " (given; its manifest says ") refl
    (join (shown-prints Quoted text) (literal (codes ")") refl)))

judged-prints : (j : JudgedData) → Prints (judged_line j)
judged-prints j = worded-prints (verdict_line j.verdict) j.word (line-prints j.verdict)

unmet-prints : (u : UnmetData) → Prints (vain_line u)
unmet-prints (Term text) = words (codes "- ") refl (join (shown-prints Quoted text) (literal (codes ": nothing to allow") refl))
unmet-prints (Words text) = words (codes "- ") refl (join (shown-prints Quoted text) (literal (codes ": no such package") refl))

data Row : Type 0 where
  Said : JudgedData → Row
  Unsaid : UnmetData → Row

row : Row → List ℕ
row (Said j) = judged_line j
row (Unsaid u) = vain_line u

row-prints : (r : Row) → Prints (row r)
unfolding row
row-prints (Said j) = judged-prints j
row-prints (Unsaid u) = unmet-prints u

text-of : {X : Type 0} (f : X → Row) (xs : List X) → flat_map (λ r. row r ++ newline ∷ []) (map f xs) ≡ flat_map (λ x. row (f x) ++ newline ∷ []) xs
text-of f [] = refl
text-of f (x ∷ xs) = ap (λ rest. (row (f x) ++ newline ∷ []) ++ rest) (text-of f xs)

rows-of : {X : Type 0} (f : X → Row) (xs : List X) (rest : List Row) → map row (map f xs ++ rest) ≡ map (λ x. row (f x)) xs ++ map row rest
rows-of f [] rest = refl
rows-of f (x ∷ xs) rest = ap (λ ys. row (f x) ∷ ys) (rows-of f xs rest)

pub each-of-report : EachIsOneLine
unfolding row
each-of-report judged unmet =
    let written : List Row → List ℕ = flat_map (λ r. row r ++ newline ∷ []) in
    let said : List Row = map Said judged in
    let unsaid : List Row = map Unsaid unmet in
    let text = flat_map-append (λ r. row r ++ newline ∷ []) said unsaid ∙ ap (λ xs. xs ++ written unsaid) (text-of Said judged) ∙ ap (λ xs. flat_map (λ j. judged_line j ++ newline ∷ []) judged ++ xs) (text-of Unsaid unmet) in
    ap lines (sym text) ∙ each-is-line row row-prints (said ++ unsaid) ∙ rows-of Said judged unsaid ∙ ap (λ ys. map judged_line judged ++ ys) (rows-only unmet)
  where
    rows-only : (us : List UnmetData) → map row (map Unsaid us) ≡ map vain_line us
    rows-only [] = refl
    rows-only (u ∷ us) = ap (λ ys. vain_line u ∷ ys) (rows-only us)
