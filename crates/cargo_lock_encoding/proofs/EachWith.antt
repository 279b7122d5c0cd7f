-- Packages that get their dependencies in their places, one after another.
use Rattle.std.proofs.Common.{◌≡◌, ◌<◌, ◌+◌, ◌-◌, ◌≤◌, ℕ, zero, suc, List, [], ◌∷◌, ◌++◌, Option, Some, None, map, option_map, length, get_or, set, take, drop, slice_get, refl, sym, ap, ◌∙◌, arith, append_assoc, length-take, drop-cons}
use Rattle.std.proofs.lemmas.List.{append-nil, get_or-append-add, get_or-drop, get_or_default, length-drop, nil_from_length, set-get_or, set_at, take_all, take_more}
use Rattle.std.proofs.lemmas.Option.{slice_get-get_or, slice_get-map, slice_get_past}
use Rattle.std.proofs.Math.ListN.{drop_of_length-le}
use Rattle.cargo_lock_parts.specs.Identity.{Identity, PackageData}
use Rattle.cargo_lock_encoding.specs.ResolvedWords.{each_with, with_dependencies}

each-length : (lists : List (List Identity)) (ps : List PackageData) → length (each_with lists ps) ≡ length ps
each-length [] ps = refl
each-length (ds ∷ lists) [] = refl
each-length (ds ∷ lists) (p ∷ ps) = ap suc (each-length lists ps)

-- a package with the next list, if there is one
abbrev next_with : Option (List Identity) → PackageData → PackageData
next_with None p = p
next_with (Some ds) p = with_dependencies ds p

each-at : (lists : List (List Identity)) (ps : List PackageData) (i : ℕ) (d : PackageData) → i < length ps → get_or (each_with lists ps) i d ≡ next_with (slice_get lists i) (get_or ps i d)
each-at [] ps i d low = refl
each-at (ds ∷ lists) [] i d low = absurd (omega (arith, low))
each-at (ds ∷ lists) (p ∷ ps) zero d low = refl
each-at (ds ∷ lists) (p ∷ ps) (suc i) d low = each-at lists ps i d (omega (arith, low))

-- the first elements are those that are wanted, and one more is
one-more : {X : Type 0} (wanted old ps : List X) (i : ℕ) (y : X) → length wanted ≡ length old → i < length old → ps ≡ take i wanted ++ drop i old → y ≡ get_or wanted i y
    → set ps i y ≡ take (i + 1) wanted ++ drop (i + 1) old
one-more {X} wanted old ps i y same low is at =
    let front : List X = take i wanted in
    let taken = length-take i wanted in
    let within : i < length wanted = omega (arith, low, same) in
    let long : length front ≡ i = omega (arith, within, taken) in
    let a : X = get_or old i y in
    let on : suc i ≡ i + 1 = omega arith in
    let rest : drop i old ≡ a ∷ drop (i + 1) old = drop-cons old i y low ∙ ap (λ n. a ∷ drop n old) on in
    let split : ps ≡ front ++ a ∷ drop (i + 1) old = is ∙ ap (λ ys. front ++ ys) rest in
    ap (λ ys. set ys i y) split ∙ set_at front a (drop (i + 1) old) y i long
    ∙ sym (append_assoc front (y ∷ []) (drop (i + 1) old))
    ∙ ap (λ ys. ys ++ drop (i + 1) old) (ap (λ z. front ++ z ∷ []) at ∙ sym (take_more wanted i y within))

-- one more is wanted as it is
kept : {X : Type 0} (wanted old ps : List X) (i : ℕ) (d : X) → length wanted ≡ length old → i < length old → ps ≡ take i wanted ++ drop i old → get_or wanted i d ≡ get_or old i d
    → ps ≡ take (i + 1) wanted ++ drop (i + 1) old
kept {X} wanted old ps i d same low is at =
    let front : List X = take i wanted in
    let within : i < length wanted = omega (arith, low, same) in
    let on : suc i ≡ i + 1 = omega arith in
    is
    ∙ ap (λ ys. front ++ ys) (drop-cons old i d low ∙ ap (λ n. get_or old i d ∷ drop n old) on)
    ∙ sym (append_assoc front (get_or old i d ∷ []) (drop (i + 1) old))
    ∙ ap (λ ys. ys ++ drop (i + 1) old) (ap (λ z. front ++ z ∷ []) (sym at) ∙ sym (take_more wanted i d within))

-- what is not reached yet is the old one
still : {X : Type 0} (wanted old ps : List X) (i : ℕ) (d : X) → length wanted ≡ length old → i < length old → ps ≡ take i wanted ++ drop i old → get_or ps i d ≡ get_or old i d
still {X} wanted old ps i d same low is =
    let front : List X = take i wanted in
    let taken = length-take i wanted in
    let within : i < length wanted = omega (arith, low, same) in
    let at : i ≡ length front + 0 = omega (arith, within, taken) in
    let on : i + 0 ≡ i = omega arith in
    ap (λ ys. get_or ys i d) is
    ∙ ap (λ k. get_or (front ++ drop i old) k d) at
    ∙ get_or-append-add front (drop i old) 0 d
    ∙ get_or-drop i old 0 d
    ∙ ap (λ k. get_or old k d) on

-- what is left begins with the next element
pub next-of : {X : Type 0} (xs : List X) (i : ℕ) (x : X) (rest : List X) → x ∷ rest ≡ drop i xs → (slice_get xs i ≡ Some x) × (rest ≡ drop (i + 1) xs)
next-of {X} xs i x rest is =
    let long : suc (length rest) ≡ length xs - i = ap length is ∙ length-drop i xs in
    let low : i < length xs = omega (arith, long) in
    let on : suc i ≡ i + 1 = omega arith in
    let both : x ∷ rest ≡ get_or xs i x ∷ drop (suc i) xs = is ∙ drop-cons xs i x low in
    let first : x ≡ get_or xs i x = ap (λ ys. get_or ys 0 x) both in
    let others : rest ≡ drop (suc i) xs = ap (λ ys. drop (suc zero) ys) both in
    (slice_get-get_or xs i x low ∙ ap Some (sym first), others ∙ ap (λ n. drop n xs) on)

-- nothing is left
pub none-of : {X : Type 0} (xs rest : List X) (i : ℕ) → rest ≡ drop i xs → length rest ≡ 0 → (slice_get xs i ≡ None) × (rest ≡ drop (i + 1) xs)
none-of {X} xs rest i is none =
    let long : 0 ≡ length xs - i = sym none ∙ ap length is ∙ length-drop i xs in
    let past : length xs ≤ i = omega (arith, long) in
    let more : length xs ≤ i + 1 = omega (arith, past) in
    (slice_get_past xs i past, nil_from_length rest none ∙ sym (drop_of_length-le xs more))

-- the next package got the next list
pub put-more : {L : Type 0} (items : L → List Identity) (lists rest : List L) (old ps : List PackageData) (i : ℕ) (p d : PackageData) (list : L) → i < length old
    → ps ≡ take i (each_with (map items lists) old) ++ drop i old → list ∷ rest ≡ drop i lists → p ≡ get_or ps i d
    → (set ps i (with_dependencies (items list) p) ≡ take (i + 1) (each_with (map items lists) old) ++ drop (i + 1) old) × (rest ≡ drop (i + 1) lists)
put-more {L} items lists rest old ps i p d list low is next at =
    let wanted : List PackageData = each_with (map items lists) old in
    let long : length wanted ≡ length old = each-length (map items lists) old in
    let given : PackageData = with_dependencies (items list) p in
    let (here, others) = next-of lists i list rest next in
    let listed : slice_get (map items lists) i ≡ Some (items list) = slice_get-map items lists i ∙ ap (option_map items) here in
    let unread : get_or old i given ≡ p = get_or_default old i given d low ∙ sym (still wanted old ps i d long low is) ∙ sym at in
    let said : get_or wanted i given ≡ given = each-at (map items lists) old i given low ∙ ap (λ o. next_with o (get_or old i given)) listed ∙ ap (with_dependencies (items list)) unread in
    (one-more wanted old ps i given long low is (sym said), others)

-- there is no list for the next package
pub put-none : {L : Type 0} (items : L → List Identity) (lists rest : List L) (old ps : List PackageData) (i : ℕ) (d : PackageData) → i < length old
    → ps ≡ take i (each_with (map items lists) old) ++ drop i old → rest ≡ drop i lists → length rest ≡ 0
    → (set ps i (get_or ps i d) ≡ take (i + 1) (each_with (map items lists) old) ++ drop (i + 1) old) × (rest ≡ drop (i + 1) lists)
put-none {L} items lists rest old ps i d low is left none =
    let wanted : List PackageData = each_with (map items lists) old in
    let (here, others) = none-of lists rest i left none in
    let listed : slice_get (map items lists) i ≡ None = slice_get-map items lists i ∙ ap (option_map items) here in
    let said : get_or wanted i d ≡ get_or old i d = each-at (map items lists) old i d low ∙ ap (λ o. next_with o (get_or old i d)) listed in
    (set-get_or ps i d ∙ kept wanted old ps i d (each-length (map items lists) old) low is said, others)

-- all packages were reached
pub put-all : (lists : List (List Identity)) (old ps : List PackageData) (i : ℕ) → length old ≤ i → ps ≡ take i (each_with lists old) ++ drop i old → ps ≡ each_with lists old
put-all lists old ps i past is =
    let within : length (each_with lists old) ≤ i = omega (arith, past, each-length lists old) in
    is ∙ ap (λ ys. take i (each_with lists old) ++ ys) (drop_of_length-le old past) ∙ append-nil (take i (each_with lists old)) ∙ take_all i (each_with lists old) within
