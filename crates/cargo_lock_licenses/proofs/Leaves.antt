-- The terms of tokens are those of their tree.
use Rattle.std.proofs.Common.{◌≡◌, ◌↔◌, ◌∙◌, ◌++◌, ◌∷◌, ◌≤◌, ◌<◌, [], ℕ, Bool, IsTrue, List, String, ap, append-nil, append_assoc, arith, bytes_eq, get_or, length, map, refl, string_bytes, sym}
use Rattle.std.proofs.lemmas.Slice.Eq.{bytes_eq-Decides}
use Rattle.cargo_lock_licenses.specs.Grammar.{Part, ReadsAsPart, Tree, both, bracket, either, exception, joined, name, single, with_exception}
use Rattle.cargo_lock_licenses.specs.Terms.{BegunData, Name, Nothing, TermsAreLeaves, begun_after, ended_at, leaves, terms_behind}
use Rattle.cargo_lock_licenses.specs.Tokens.{And, Close, Id, Open, Or, Other, TokenData, With, tokens}

-- a token behind which nothing has begun, and that no term goes on with
abbrev Ends : TokenData → Type 0
Ends Open = ⊥
Ends Close = Unit {0}
Ends Or = Unit {0}
Ends And = Unit {0}
Ends With = ⊥
Ends (Id id) = ⊥
Ends Other = ⊥

nothing-behind : (t : TokenData) (us : List TokenData) → Ends t → terms_behind Nothing (t ∷ us) ≡ terms_behind Nothing us
nothing-behind Open us ends = absurd ends
nothing-behind Close us ends = refl
nothing-behind Or us ends = refl
nothing-behind And us ends = refl
nothing-behind With us ends = absurd ends
nothing-behind (Id id) us ends = absurd ends
nothing-behind Other us ends = absurd ends

name-behind : (id : List ℕ) (t : TokenData) (us : List TokenData) → Ends t → terms_behind (Name id) (t ∷ us) ≡ id ∷ terms_behind Nothing us
name-behind id Open us ends = absurd ends
name-behind id Close us ends = refl
name-behind id Or us ends = refl
name-behind id And us ends = refl
name-behind id With us ends = absurd ends
name-behind id (Id other) us ends = absurd ends
name-behind id Other us ends = absurd ends

-- the tokens of a part, and one at which it ends
part-terms : (n : ℕ) (p : Part) (ts : List TokenData) (e : Tree) (t : TokenData) (us : List TokenData) → ReadsAsPart n p ts e → Ends t
    → terms_behind Nothing (ts ++ t ∷ us) ≡ leaves e ++ terms_behind Nothing us
part-terms n p _ _ t us (name _ id) ends = name-behind id t us ends
part-terms n p _ _ t us (exception _ id other) ends = ap (λ xs. with_exception id other ∷ xs) (nothing-behind t us ends)
part-terms n p _ _ t us (bracket m ts e reads) ends =
    ap (terms_behind Nothing) (append_assoc ts (Close ∷ []) (t ∷ us))
    ∙ part-terms m _ ts e Close (t ∷ us) reads tt
    ∙ ap (λ xs. leaves e ++ xs) (nothing-behind t us ends)
part-terms n p _ _ t us (single m ts e reads) ends = part-terms m _ ts e t us reads ends
part-terms n p _ _ t us (joined m ts e reads) ends = part-terms m _ ts e t us reads ends
part-terms n p _ _ t us (both m ts vs l r left right) ends =
    ap (terms_behind Nothing) (append_assoc ts (And ∷ vs) (t ∷ us))
    ∙ part-terms m _ ts l And (vs ++ t ∷ us) left tt
    ∙ ap (λ xs. leaves l ++ xs) (part-terms m _ vs r t us right ends)
    ∙ sym (append_assoc (leaves l) (leaves r) (terms_behind Nothing us))
part-terms n p _ _ t us (either m ts vs l r left right) ends =
    ap (terms_behind Nothing) (append_assoc ts (Or ∷ vs) (t ∷ us))
    ∙ part-terms m _ ts l Or (vs ++ t ∷ us) left tt
    ∙ ap (λ xs. leaves l ++ xs) (part-terms m _ vs r t us right ends)
    ∙ sym (append_assoc (leaves l) (leaves r) (terms_behind Nothing us))

-- the end of the tokens is like a bracket that closes
close-behind : (b : BegunData) (ts : List TokenData) → terms_behind b (ts ++ Close ∷ []) ≡ terms_behind b ts
close-behind b [] = append-nil _
close-behind b (t ∷ ts) = ap (λ xs. ended_at b t ++ xs) (close-behind (begun_after b t) ts)

pub terms-are-leaves : TermsAreLeaves
terms-are-leaves text e reads =
    sym (close-behind Nothing (tokens text)) ∙ part-terms _ _ (tokens text) e Close [] reads tt ∙ append-nil (leaves e)

-- ---- the only text of a list

pub only-is : {Y : Type 0} (texts : List (String Y)) (text : List ℕ) (only : String Y) (b : Bool) → 1 ≤ length texts → length texts < 2 → only ≡ get_or texts 0 only
    → b ≡ bytes_eq (string_bytes only) text → IsTrue b ↔ (map string_bytes texts ≡ text ∷ [])
only-is [] text only b one below is same = absurd (omega (arith, one))
only-is (t ∷ []) text only b one below is same = (
  λ yes. ap (λ x. x ∷ []) (sym (ap string_bytes is) ∙ (bytes_eq-Decides (string_bytes only) text).0 (sym same ∙ yes)),
  λ e. same ∙ (bytes_eq-Decides (string_bytes only) text).1 (ap string_bytes is ∙ first-of e),
)
  where
    first-of : string_bytes t ∷ [] ≡ text ∷ [] → string_bytes t ≡ text
    first-of e = ap (λ (xs : List (List ℕ)). get_or xs 0 []) e
only-is (t ∷ u ∷ rest) text only b one below is same = absurd (omega (arith, below))
