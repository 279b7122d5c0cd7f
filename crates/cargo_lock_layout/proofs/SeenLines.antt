-- Lines of a text behind references.
use Rattle.std.proofs.Common.{◌≡◌, ◌<◌, ◌+◌, ◌-◌, ◌++◌, ℕ, Bool, true, false, cond, List, [], ◌∷◌, length, get_or, drop, filter, map, take, refl, sym, ap, ◌∙◌, append_assoc}
use Rattle.std.specs.List.{dedup, dedup_from, take_while}
use Rattle.std.specs.Prelude.{bytes_eq, not}
use Rattle.std.specs.Borrow.{Bor}
use Rattle.cargo_lock_layout.specs.Lines.{is_empty, line_or_empty, others_than, without_empty_end}
use Rattle.cargo_lock_lines.specs.Layout.{join_lines}
use Rattle.std.proofs.lemmas.List.{length-map}
use Rattle.std.proofs.lemmas.List.{at_drop_more, drop_more, get_or-map, take-map}
use Rattle.std.proofs.lemmas.List.Sums.{take_while-cons}

-- the next one passes
take_while-more : {X : Type 0} (p : X → Bool) (xs : List X) (i : ℕ) (x : X) → i < length xs → x ≡ get_or xs i x → p x ≡ true
    → take_while p (drop i xs) ≡ x ∷ take_while p (drop (i + 1) xs)
take_while-more p xs i x lt is pass =
    ap (take_while p) (drop_more xs i x lt ∙ ap (λ y. y ∷ drop (i + 1) xs) (sym is))
    ∙ take_while-cons p x (drop (i + 1) xs) ∙ ap (λ b. cond b (x ∷ take_while p (drop (i + 1) xs)) []) pass

-- the next one does not pass
take_while-stop : {X : Type 0} (p : X → Bool) (xs : List X) (i : ℕ) (x : X) → i < length xs → x ≡ get_or xs i x → p x ≡ false
    → take_while p (drop i xs) ≡ []
take_while-stop p xs i x lt is fail =
    ap (take_while p) (drop_more xs i x lt ∙ ap (λ y. y ∷ drop (i + 1) xs) (sym is))
    ∙ take_while-cons p x (drop (i + 1) xs) ∙ ap (λ b. cond b (x ∷ take_while p (drop (i + 1) xs)) []) fail

-- the same behind references

pub texts-more : (p : List ℕ → Bool) (lines : List (Bor (List ℕ))) (i : ℕ) (d : Bor (List ℕ)) → i < length lines → p (get_or lines i d).now ≡ true
    → take_while p (drop i (map (λ (b : Bor (List ℕ)). b.now) lines)) ≡ (get_or lines i d).now ∷ take_while p (drop (i + 1) (map (λ (b : Bor (List ℕ)). b.now) lines))
texts-more p lines i d lt pass =
    take_while-more p (map (λ (b : Bor (List ℕ)). b.now) lines) i (get_or lines i d).now (rw length-map lt)
    (sym (get_or-map (λ (b : Bor (List ℕ)). b.now) lines i d (get_or lines i d).now lt)) pass

pub texts-stop : (p : List ℕ → Bool) (lines : List (Bor (List ℕ))) (i : ℕ) (d : Bor (List ℕ)) → i < length lines → p (get_or lines i d).now ≡ false
    → take_while p (drop i (map (λ (b : Bor (List ℕ)). b.now) lines)) ≡ []
texts-stop p lines i d lt fail =
    take_while-stop p (map (λ (b : Bor (List ℕ)). b.now) lines) i (get_or lines i d).now (rw length-map lt)
    (sym (get_or-map (λ (b : Bor (List ℕ)). b.now) lines i d (get_or lines i d).now lt)) fail

dedup_from-map : {X Y : Type 0} (f : X → Y) (same : Y → Y → Bool) (x : X) (xs : List X)
    → map f (dedup_from (λ a b. same (f a) (f b)) x xs) ≡ dedup_from same (f x) (map f xs)
dedup_from-map f same x [] = refl
dedup_from-map {X} {Y} f same x (y ∷ ys) = go (same (f y) (f x)) (dedup_from-map f same x ys) (dedup_from-map f same y ys)
  where
    go : (b : Bool) → map f (dedup_from (λ a b. same (f a) (f b)) x ys) ≡ dedup_from same (f x) (map f ys)
        → map f (dedup_from (λ a b. same (f a) (f b)) y ys) ≡ dedup_from same (f y) (map f ys)
        → map f (cond b (dedup_from (λ a b. same (f a) (f b)) x ys) (x ∷ dedup_from (λ a b. same (f a) (f b)) y ys))
        ≡ cond b (dedup_from same (f x) (map f ys)) (f x ∷ dedup_from same (f y) (map f ys))
    go true kept next = kept
    go false kept next = ap (λ zs. f x ∷ zs) next

pub dedup-map : {X Y : Type 0} (f : X → Y) (same : Y → Y → Bool) (xs : List X)
    → map f (dedup (λ a b. same (f a) (f b)) xs) ≡ dedup same (map f xs)
dedup-map f same [] = refl
dedup-map f same (x ∷ xs) = dedup_from-map f same x xs

-- ---- lines that are joined, lines but each that is one, and lines without the last one

joined-more : (lines : List (Bor (List ℕ))) (i : ℕ) (d : Bor (List ℕ)) → i < length lines
    → join_lines (map (λ (b : Bor (List ℕ)). b.now) (drop i lines))
    ≡ ((get_or lines i d).now ++ 10 ∷ []) ++ join_lines (map (λ (b : Bor (List ℕ)). b.now) (drop (i + 1) lines))
joined-more lines i d lt = at_drop_more (λ ls. join_lines (map (λ (b : Bor (List ℕ)). b.now) ls)) lines i d lt

pub joined-one : (lines : List (Bor (List ℕ))) (i : ℕ) (d : Bor (List ℕ)) (old new : List ℕ) → i < length lines
    → new ≡ (old ++ (get_or lines i d).now) ++ 10 ∷ []
    → old ++ join_lines (map (λ (b : Bor (List ℕ)). b.now) (drop i lines)) ≡ join_lines (map (λ (b : Bor (List ℕ)). b.now) lines)
    → new ++ join_lines (map (λ (b : Bor (List ℕ)). b.now) (drop (i + 1) lines)) ≡ join_lines (map (λ (b : Bor (List ℕ)). b.now) lines)
joined-one lines i d old new lt is before =
    let rest = join_lines (map (λ (b : Bor (List ℕ)). b.now) (drop (i + 1) lines)) in
    ap (λ t. t ++ rest) is ∙ append_assoc (old ++ (get_or lines i d).now) (10 ∷ []) rest
    ∙ append_assoc old (get_or lines i d).now (10 ∷ [] ++ rest)
    ∙ ap (λ t. old ++ t) (sym (append_assoc (get_or lines i d).now (10 ∷ []) rest) ∙ sym (joined-more lines i d lt)) ∙ before

filter-one : {X : Type 0} (p : X → Bool) (x : X) (xs : List X) → filter p (x ∷ xs) ≡ filter p (x ∷ []) ++ filter p xs
filter-one p x xs = go (p x)
  where
    go : (b : Bool) → cond b (x ∷ filter p xs) (filter p xs) ≡ cond b (x ∷ []) [] ++ filter p xs
    go true = refl
    go false = refl

pub others-more : (own : List ℕ) (lines : List (Bor (List ℕ))) (i : ℕ) (d : Bor (List ℕ)) → i < length lines
    → others_than own (map (λ (b : Bor (List ℕ)). b.now) (drop i lines))
    ≡ others_than own ((get_or lines i d).now ∷ []) ++ others_than own (map (λ (b : Bor (List ℕ)). b.now) (drop (i + 1) lines))
others-more own lines i d lt =
    at_drop_more (λ ls. others_than own (map (λ (b : Bor (List ℕ)). b.now) ls)) lines i d lt
    ∙ filter-one (λ line. not (bytes_eq line own)) (get_or lines i d).now (map (λ (b : Bor (List ℕ)). b.now) (drop (i + 1) lines))

pub cut-empty : (lines : List (Bor (List ℕ))) (end : ℕ) → end ≡ length lines - 1
    → is_empty (line_or_empty (map (λ (b : Bor (List ℕ)). b.now) lines) end) ≡ true
    → map (λ (b : Bor (List ℕ)). b.now) (take end lines) ≡ without_empty_end (map (λ (b : Bor (List ℕ)). b.now) lines)
cut-empty lines end is empty =
    let seen = map (λ (b : Bor (List ℕ)). b.now) lines in
    let place : length seen - 1 ≡ end = rw length-map (sym is) in
    sym (take-map (λ (b : Bor (List ℕ)). b.now) end lines)
    ∙ sym (ap (λ k. cond (is_empty (line_or_empty seen k)) (take k seen) seen) place ∙ ap (λ b. cond b (take end seen) seen) empty)
