-- The rows of the packages of one name, one after another.
use Rattle.std.proofs.Common.{true, false, codes, eqb, replicate, append-nil, append_assoc, ◌≡◌, ◌∙◌, ◌<◌, ◌≤◌, ◌+◌, ◌++◌, ◌∷◌, [], inl, inr, ℕ, zero, suc, List, Option, length, get_or, map, take, ap, refl, sym, subst, arith}
use Rattle.std.specs.Borrow.{Bor}
use Rattle.std.specs.List.{filter_map, flat_map}
use Rattle.std.proofs.lemmas.Bool.{eq-eqb}
use Rattle.std.proofs.lemmas.Grind.{flat_map-append}
use Rattle.std.proofs.lemmas.List.{length-map, length-take-le, map_push, take_all, take_more}
use Rattle.std.proofs.lemmas.List.Elements.{All-push, All-weaker, Contains-append_left, Contains-push, filter_map-append}
use Rattle.cargo_lock_parts.specs.Identity.{PackageData}
use Rattle.cargo_lock_display.specs.Line.{named_text}
use Rattle.cargo_lock_query.specs.Listing.{IsWidest, RowData, listed_text, needers_text, row_of}
use Rattle.cargo_lock_query.specs.declared.listing.Row.{Row}

-- ---- what is made of the elements so far

-- the next one
pub made-next : {X Y : Type 0} (h : X → Option Y) (xs : List X) (i : ℕ) (x : X) → i < length xs → x ≡ get_or xs i x
    → filter_map h (take (i + 1) xs) ≡ filter_map h (take i xs) ++ filter_map h (x ∷ [])
made-next h xs i x low is = ap (filter_map h) (take_more xs i x low ∙ ap (λ y. take i xs ++ y ∷ []) (sym is)) ∙ filter_map-append h (take i xs) (x ∷ [])

-- ---- the width

pub none-widest : (rows : List Row) → IsWidest (map row_of (take 0 rows)) 0
none-widest rows = record { fits = λ k d low. absurd (omega (arith, low)); taken = inl refl }

push-wider : (rows : List RowData) (row : RowData) (width : ℕ) → width < length row.version → IsWidest rows width → IsWidest (rows ++ row ∷ []) (length row.version)
push-wider rows row width more h = record {
  fits = All-push (λ (r : RowData). length r.version ≤ length row.version) rows row
      (All-weaker (λ (r : RowData). length r.version ≤ width) (λ (r : RowData). length r.version ≤ length row.version) (λ r low. omega (arith, low, more)) rows h.fits) (omega arith);
  taken = inr (row, Contains-push rows row, refl);
}

push-within : (rows : List RowData) (row : RowData) (width : ℕ) → length row.version ≤ width → IsWidest rows width → IsWidest (rows ++ row ∷ []) width
push-within rows row width low h = record {
  fits = All-push (λ (r : RowData). length r.version ≤ width) rows row h.fits low;
  taken = elim h.taken [
    | inl none ↦ inl none
    | inr some ↦ inr (some.0, Contains-append_left rows (row ∷ []) some.0 some.1, some.2)
  ];
}

rows-next : (rows : List Row) (i : ℕ) (row : Row) → i < length rows → row ≡ get_or rows i row → map row_of (take (i + 1) rows) ≡ map row_of (take i rows) ++ row_of row ∷ []
rows-next rows i row low is = ap (map row_of) (take_more rows i row low ∙ ap (λ r. take i rows ++ r ∷ []) (sym is)) ∙ map_push row_of (take i rows) row

pub widest-wider : (rows : List Row) (i : ℕ) (row : Row) (width wider : ℕ) → i < length rows → row ≡ get_or rows i row → wider ≡ length (row_of row).version → width < wider
    → IsWidest (map row_of (take i rows)) width → IsWidest (map row_of (take (i + 1) rows)) wider
widest-wider rows i row width wider low is long more h =
    subst (λ (n : ℕ). IsWidest (map row_of (take (i + 1) rows)) n) (sym long)
    (subst (λ (rs : List RowData). IsWidest rs (length (row_of row).version)) (sym (rows-next rows i row low is)) (push-wider (map row_of (take i rows)) (row_of row) width (omega (arith, long, more)) h))

pub widest-within : (rows : List Row) (i : ℕ) (row : Row) (width wide : ℕ) → i < length rows → row ≡ get_or rows i row → wide ≡ length (row_of row).version → wide ≤ width
    → IsWidest (map row_of (take i rows)) width → IsWidest (map row_of (take (i + 1) rows)) width
widest-within rows i row width wide low is long less h =
    subst (λ (rs : List RowData). IsWidest rs width) (sym (rows-next rows i row low is)) (push-within (map row_of (take i rows)) (row_of row) width (omega (arith, long, less)) h)

pub widest-all : (rows : List Row) (i : ℕ) (width : ℕ) → length rows ≤ i → IsWidest (map row_of (take i rows)) width → IsWidest (map row_of rows) width
widest-all rows i width end h = subst (λ (rs : List Row). IsWidest (map row_of rs) width) (take_all i rows end) h

-- ---- texts

-- a list that is not empty
pub some-length : (n len : ℕ) → len ≡ n → false ≡ eqb len 0 → 0 < n
some-length zero len is h = let e : false ≡ true = h ∙ eq-eqb len 0 is in cc e
some-length (suc n) len is h = omega arith

pub needers-some : (padding : ℕ) (ps : List PackageData) → 0 < length ps → replicate padding 32 ++ (codes "  needed by " ++ listed_text ps) ≡ needers_text padding ps
needers-some padding [] some = absurd (omega (arith, some))
needers-some padding (p ∷ ps) some = refl

-- the first of packages has no comma before it, and each later one has
abbrev pub comma_text : ℕ → List ℕ
comma_text zero = []
comma_text (suc n) = codes ", "

pub no-comma : (i : ℕ) → i ≡ 0 → [] ≡ comma_text i
no-comma zero is = refl
no-comma (suc i) is = absurd (omega (arith, is))

pub one-comma : (i : ℕ) → ¬ (i ≡ 0) → codes ", " ≡ comma_text i
one-comma zero other = absurd (other refl)
one-comma (suc i) other = refl

listed-push : (ps : List PackageData) (p : PackageData) → listed_text ps ++ (comma_text (length ps) ++ named_text p) ≡ listed_text (ps ++ p ∷ [])
listed-push [] p = sym (append-nil (named_text p))
listed-push (q ∷ ps) p =
    let comma : PackageData → List ℕ = λ r. codes ", " ++ named_text r in
    append_assoc (named_text q) (flat_map comma ps) (comma p)
    ∙ ap (λ bs. named_text q ++ bs) (ap (λ bs. flat_map comma ps ++ bs) (sym (append-nil (comma p))) ∙ sym (flat_map-append comma ps (p ∷ [])))

pub listed-next : (ps : List (Bor PackageData)) (i : ℕ) (p : Bor PackageData) (comma : List ℕ) → i < length ps → p ≡ get_or ps i p → comma ≡ comma_text i
    → listed_text (map (λ (b : Bor PackageData). b.now) (take i ps)) ++ (comma ++ named_text p.now) ≡ listed_text (map (λ (b : Bor PackageData). b.now) (take (i + 1) ps))
listed-next ps i p comma low is says =
    let now : Bor PackageData → PackageData = λ (b : Bor PackageData). b.now in
    let front : List PackageData = map now (take i ps) in
    let next : map now (take (i + 1) ps) ≡ front ++ p.now ∷ [] = ap (map now) (take_more ps i p low ∙ ap (λ b. take i ps ++ b ∷ []) (sym is)) ∙ map_push now (take i ps) p in
    let count : length front ≡ i = length-map (take i ps) now ∙ length-take-le i ps (omega (arith, low)) in
    ap (λ bs. listed_text front ++ (bs ++ named_text p.now)) (says ∙ ap comma_text (sym count)) ∙ listed-push front p.now ∙ ap listed_text (sym next)
