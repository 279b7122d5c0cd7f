-- The lists of the document of a merge.
use Rattle.std.proofs.Common.{◌≡◌, ◌∙◌, Bool, List, [], ◌∷◌, ◌++◌, ap, append_assoc, filter, map, refl, sym}
use Rattle.std.proofs.lemmas.Simd.{map-map}
use Rattle.cargo_lock_merge.specs.Document.{matter_of, notice_json}
use Rattle.cargo_lock_merge.specs.declared.notice.Notice.{Notice}
use Rattle.cargo_lock_merge_core.specs.declared.conflicts.Conflict as merging

mapped-append : {A B : Type 0} (f : A → B) (xs ys : List A) → map f (xs ++ ys) ≡ map f xs ++ map f ys
mapped-append f [] ys = refl
mapped-append f (x ∷ xs) ys = ap (λ l. f x ∷ l) (mapped-append f xs ys)

-- one item more, of one value more
pub item-more : {A B C : Type 0} (f : A → B) (g : C → B) (old : List B) (xs new : List A) (x : A)
    (ys : List C) (y : C) → new ≡ xs ++ x ∷ [] → map f xs ≡ old ++ map g ys → f x ≡ g y
    → map f new ≡ old ++ map g (ys ++ y ∷ [])
item-more f g old xs new x ys y is before same =
    ap (map f) is ∙ mapped-append f xs (x ∷ []) ∙ ap (λ l. l ++ f x ∷ []) before
    ∙ ap (λ b. (old ++ map g ys) ++ b ∷ []) same ∙ append_assoc old (map g ys) (g y ∷ [])
    ∙ ap (λ l. old ++ l) (sym (mapped-append g ys (y ∷ [])))

-- the notices that are so, as the document has them
pub told-json : (p : merging.Conflict → Bool) (ns items : List merging.Conflict) (vs ws : List Notice)
    → vs ≡ ws → map matter_of ws ≡ filter p ns → ns ≡ items
    → map (λ (n : Notice). notice_json (matter_of n)) vs ≡ map notice_json (filter p items)
told-json p ns items vs ws same is of =
    ap (map (λ (n : Notice). notice_json (matter_of n))) same ∙ sym (map-map notice_json matter_of ws)
    ∙ ap (map notice_json) is ∙ ap (λ (l : List merging.Conflict). map notice_json (filter p l)) of
