-- What searches of texts and of lists give.
use Rattle.std.proofs.Common.{◌≡◌, ◌+◌, ◌∙◌, ℕ, Bool, false, true, List, [], ◌∷◌, Option, None, Some, ap, cond, drop, if◌then◌else◌, length, map, nat_eq, nat_lt, not, option_map, refl, subst, sym, take}
use Rattle.std.specs.Borrow.{Bor}
use Rattle.std.specs.List.{position, position_or_len, prefix_len, starts_with}
use Rattle.std.specs.Option.{MatchOption}
use Rattle.std.specs.Str.{IsCharBoundary}
use Rattle.std.specs.Str.Pattern.{FindsTextPrefix}
use Rattle.std.proofs.lemmas.List.{drop-map, length-map, take-map}
use Rattle.cargo_lock_audit.specs.FrontMatter.{lines_at}
use Rattle.std.proofs.lemmas.Str.Pattern.{starts_text}

-- a text without the text n at its front
pub strip-text : (n s : List ℕ) (r : Option (Bor (List ℕ)))
    → MatchOption r (FindsTextPrefix n s None) (λ x. (k : ℕ) × FindsTextPrefix n s (Some k) × (x.now ≡ drop k s) × (length x.now + k ≡ length s))
    → option_map (λ t. t.now) r ≡ (if starts_with nat_eq s n then Some (drop (length n) s) else None)
strip-text n s None h = subst (λ (b : Bool). None ≡ (if b then Some (drop (length n) s) else None)) (starts_text false n s h) refl
strip-text n s (Some x) (k, finds, is, all) =
    let (same, whole, cut) = finds in
    let e : true ≡ starts_with nat_eq s n = starts_text true n s (k, finds, subst (λ j. IsCharBoundary s j) (sym same) cut) in
    subst (λ (b : Bool). Some x.now ≡ (if b then Some (drop (length n) s) else None)) e
    (ap (λ (t : List ℕ). Some t) (is ∙ ap (λ (j : ℕ). drop j s) same))

prefix-map : {X Y : Type 0} (f : X → Y) (p : Y → Bool) (xs : List X) → prefix_len p (map f xs) ≡ prefix_len (λ x. p (f x)) xs
prefix-map f p [] = refl
prefix-map f p (x ∷ xs) = ap (λ (n : ℕ). cond (p (f x)) (1 + n) 0) (prefix-map f p xs)

-- the place of the first element that passes, in what f gives
pub position-map : {X Y : Type 0} (f : X → Y) (p : Y → Bool) (xs : List X) → position p (map f xs) ≡ position (λ x. p (f x)) xs
position-map f p xs =
    ap (λ (n : ℕ). cond (nat_lt n (length (map f xs))) (Some n) None) (prefix-map f (λ y. not (p y)) xs)
    ∙ ap (λ (m : ℕ). cond (nat_lt (position_or_len (λ x. p (f x)) xs) m) (Some (position_or_len (λ x. p (f x)) xs)) None) (length-map xs f)

-- the lines to which a part of some references refers
pub drop_lines : (n : ℕ) (all : List (Bor (List ℕ))) → drop n (lines_at all) ≡ lines_at (drop n all)
drop_lines n all = drop-map (λ (l : Bor (List ℕ)). l.now) n all

pub take_lines : (n : ℕ) (all : List (Bor (List ℕ))) → take n (lines_at all) ≡ lines_at (take n all)
take_lines n all = take-map (λ (l : Bor (List ℕ)). l.now) n all
