-- No two texts are shown alike: a shown text tells its first character, and what comes after it.
use Rattle.std.proofs.Common.{◌≡◌, ℕ, ◌<◌, ◌^◌, Bool, true, false, if◌then◌else◌, List, [], ◌∷◌, ◌++◌, codes, refl, sym, ap, subst, ◌∙◌, arith, append_assoc}
use Rattle.std.specs.Char.{IsScalar, digit_value}
use Rattle.std.specs.Fmt.{digits}
use Rattle.std.specs.List.{flat_map}
use Rattle.std.specs.Str.{all_scalars, chars, encode_utf8_all}
use Rattle.std.specs.Str.Parse.{AllDigits, digits_value}
use Rattle.std.proofs.Math.Utf8.{scalar, scalar_fits}
use Rattle.std.proofs.lemmas.Bool.{and_parts}
use Rattle.std.proofs.lemmas.Fmt.{digits_is_IsNumeral}
use Rattle.std.proofs.lemmas.Str.{encodes-chars, scalars-chars}
use Rattle.printing.specs.Laws.{ShownApart}
use Rattle.printing.specs.Shown.{by_number, shown, shown_char, is_kept}
use Rattle.printing.specs.declared.form.Form.{Form}
use Rattle.printing.specs.declared.form.Form.TheVariants.{Plain, Quoted}

no_bracket : (d : ℕ) → 125 ≡ d → digit_value d < 16 → ⊥
no_bracket d same h = let at : digit_value 125 < 16 = subst (λ x. digit_value x < 16) (sym same) h in omega arith

-- digits end at the closing bracket, so two runs of them before one are the same
same-digits : (ds es xs ys : List ℕ) → AllDigits 16 ds → AllDigits 16 es → ds ++ 125 ∷ xs ≡ es ++ 125 ∷ ys → (ds ≡ es) × (xs ≡ ys)
same-digits [] [] xs ys hd he e = (refl, cc)
same-digits [] (f ∷ es) xs ys hd he e = let head : 125 ≡ f = cc in absurd (no_bracket f head he.0)
same-digits (d ∷ ds) [] xs ys hd he e = let head : 125 ≡ d = cc in absurd (no_bracket d head hd.0)
same-digits (d ∷ ds) (f ∷ es) xs ys hd he e =
    let more = same-digits ds es xs ys hd.1 he.1 cc in
    let head : d ≡ f = cc in
    (rw (head, more.0) refl, more.1)

-- two characters by number, each before some bytes
same-numbers : (c d : ℕ) (xs ys : List ℕ) → c < 16 ^ 64 → d < 16 ^ 64 → by_number c ++ xs ≡ by_number d ++ ys → (c ≡ d) × (xs ≡ ys)
same-numbers c d xs ys hc hd e =
    let nc = digits_is_IsNumeral 16 false (omega arith) (omega arith) c hc in
    let nd = digits_is_IsNumeral 16 false (omega arith) (omega arith) d hd in
    let inner : (digits 16 false c ++ codes "}") ++ xs ≡ (digits 16 false d ++ codes "}") ++ ys = cc in
    let joined : digits 16 false c ++ 125 ∷ xs ≡ digits 16 false d ++ 125 ∷ ys =
    sym (append_assoc (digits 16 false c) (codes "}") xs) ∙ inner ∙ append_assoc (digits 16 false d) (codes "}") ys in
    let (same, rest) = same-digits (digits 16 false c) (digits 16 false d) xs ys nc.0.1 nd.0.1 joined in
    (sym nc.1 ∙ ap (digits_value 16) same ∙ nd.1, rest)

-- the backslash that a number begins with is kept in no form
no_backslash : (form : Form) (c : ℕ) → is_kept form c ≡ true → c ≡ 92 → ⊥
no_backslash Plain c h same = grind arith
no_backslash Quoted c h same = grind arith

below : (c : ℕ) → IsScalar c → c < 16 ^ 64
below c h = let fits = scalar_fits c h in omega arith

first_by : (form : Form) (c d : ℕ) (xs ys : List ℕ) → IsScalar c → IsScalar d → (bc bd : Bool) → is_kept form c ≡ bc → is_kept form d ≡ bd
    → (if bc then c ∷ [] else by_number c) ++ xs ≡ (if bd then d ∷ [] else by_number d) ++ ys → (c ≡ d) × (xs ≡ ys)
first_by form c d xs ys hc hd true true sc sd e = (cc, cc)
first_by form c d xs ys hc hd true false sc sd e = absurd (no_backslash form c sc cc)
first_by form c d xs ys hc hd false true sc sd e = absurd (no_backslash form d sd cc)
first_by form c d xs ys hc hd false false sc sd e = same-numbers c d xs ys (below c hc) (below d hd) e

-- a shown character is nonempty
nonempty_by : (c : ℕ) (b : Bool) (xs : List ℕ) → (if b then c ∷ [] else by_number c) ++ xs ≡ [] → ⊥
nonempty_by c true xs e = cc
nonempty_by c false xs e = cc

same-chars : (form : Form) (cs ds : List ℕ) → all_scalars cs ≡ true → all_scalars ds ≡ true → flat_map (shown_char form) cs ≡ flat_map (shown_char form) ds → cs ≡ ds
same-chars form [] [] hc hd e = refl
same-chars form [] (d ∷ ds) hc hd e = absurd (nonempty_by d (is_kept form d) (flat_map (shown_char form) ds) (sym e))
same-chars form (c ∷ cs) [] hc hd e = absurd (nonempty_by c (is_kept form c) (flat_map (shown_char form) cs) e)
same-chars form (c ∷ cs) (d ∷ ds) hc hd e =
    let (c_is, cs_are) = and_parts (scalar c) (all_scalars cs) hc in
    let (d_is, ds_are) = and_parts (scalar d) (all_scalars ds) hd in
    let (head, rest) = first_by form c d _ _ c_is d_is (is_kept form c) (is_kept form d) refl refl e in
    let tail = same-chars form cs ds cs_are ds_are rest in
    rw (head, tail) refl

pub apart : ShownApart
unfolding shown
apart form a b ha hb e =
    sym (encodes-chars a ha) ∙ ap encode_utf8_all (same-chars form (chars a) (chars b) (scalars-chars a ha) (scalars-chars b hb) e) ∙ encodes-chars b hb
