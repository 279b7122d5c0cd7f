-- Texts that are printed in pieces, one for each element of a list.
use Rattle.std.proofs.Common.{◌≡◌, ◌∙◌, ◌<◌, ◌+◌, ◌++◌, ◌∷◌, ℕ, List, [], Option, ap, append_assoc, map, refl, sym, subst, take, length, get_or}
use Rattle.std.specs.Io.KnownBytes.{Appends}
use Rattle.std.specs.List.{flat_map}
use Rattle.std.proofs.lemmas.List.{append-nil, take_more}
use Rattle.std.proofs.lemmas.List.Concat.{flat_map-append}
use Rattle.cargo_lock_parts.proofs.Appended.{appends_more}

-- one more piece is printed at the end
pub appends_last : {A : Type 0} (text : A → List ℕ) (a b c : Option (List ℕ)) (done : List A) (x : A)
    → Appends a b (flat_map text done) → Appends b c (text x) → Appends a c (flat_map text (done ++ x ∷ []))
appends_last {A} text a b c done x h k =
    subst (λ (ws : List ℕ). Appends a c ws)
    (sym (flat_map-append text done (x ∷ []) ∙ ap (λ (ws : List ℕ). flat_map text done ++ ws) (append-nil (text x))))
    (appends_more a b c (flat_map text done) (text x) h k)

-- one element more of a list
pub take-next : {A : Type 0} (xs : List A) (i : ℕ) (x : A) → i < length xs → x ≡ get_or xs i x → take (i + 1) xs ≡ take i xs ++ x ∷ []
take-next {A} xs i x lt at = take_more xs i x lt ∙ ap (λ (y : A). take i xs ++ y ∷ []) (sym at)

-- the piece of one more element is printed
pub appends_each : {A : Type 0} (text : A → List ℕ) (a b c : Option (List ℕ)) (xs : List A) (i : ℕ) (x : A)
    → i < length xs → x ≡ get_or xs i x → Appends a b (flat_map text (take i xs)) → Appends b c (text x)
    → Appends a c (flat_map text (take (i + 1) xs))
appends_each {A} text a b c xs i x lt at h k =
    subst (λ (ys : List A). Appends a c (flat_map text ys)) (sym (take-next xs i x lt at)) (appends_last text a b c (take i xs) x h k)

-- the pieces of a line, as they are printed
pub line-text : (start name version source end : List ℕ)
    → ((start ++ (name ++ (32 ∷ version))) ++ source) ++ end ≡ (start ++ (((name ++ (32 ∷ [])) ++ version) ++ source)) ++ end
line-text start name version source end =
    ap (λ (ws : List ℕ). ws ++ end)
    (append_assoc start (name ++ (32 ∷ version)) source ∙ ap (λ (ws : List ℕ). start ++ (ws ++ source)) (sym (append_assoc name (32 ∷ []) version)))
