-- What is written of a list, one element after another.
use Rattle.std.proofs.Common.{◌≡◌, ◌∙◌, ◌<◌, ◌+◌, ◌++◌, ◌∷◌, [], ℕ, List, None, Some, length, drop, get_or, map, reverse, slice_get, take, ap, refl, sym, append-nil}
use Rattle.std.specs.Borrow.{Bor}
use Rattle.std.specs.List.{flat_map}
use Rattle.std.proofs.lemmas.List.Elements.{filter_map-append}
use Rattle.std.proofs.lemmas.Grind.{flat_map-append}
use Rattle.std.proofs.lemmas.List.{map-append, map_push, reverse-append, take_more}
use Rattle.cargo_lock_parts.specs.Identity.{PackageData}
use Rattle.cargo_lock_query.specs.Lines.{packages_at}

-- the text of the elements so far and of the next one
pub text-next : {X : Type 0} (f : X → List ℕ) (xs : List X) (i : ℕ) (x : X) → i < length xs → x ≡ get_or xs i x → flat_map f (take i xs) ++ f x ≡ flat_map f (take (i + 1) xs)
text-next f xs i x low is =
    let next : take (i + 1) xs ≡ take i xs ++ x ∷ [] = take_more xs i x low ∙ ap (λ y. take i xs ++ y ∷ []) (sym is) in
    let one : flat_map f (x ∷ []) ≡ f x = append-nil (f x) in
    ap (λ bs. flat_map f (take i xs) ++ bs) (sym one) ∙ sym (flat_map-append f (take i xs) (x ∷ [])) ∙ ap (flat_map f) (sym next)

-- the same where the elements are referred to
pub referred-next : {X : Type 0} (f : X → List ℕ) (xs : List (Bor X)) (i : ℕ) (x : Bor X) → i < length xs → x ≡ get_or xs i x
    → flat_map f (map (λ (b : Bor X). b.now) (take i xs)) ++ f x.now ≡ flat_map f (map (λ (b : Bor X). b.now) (take (i + 1) xs))
referred-next {X = X} f xs i x low is =
    let now : Bor X → X = λ (b : Bor X). b.now in
    let next : take (i + 1) xs ≡ take i xs ++ x ∷ [] = take_more xs i x low ∙ ap (λ y. take i xs ++ y ∷ []) (sym is) in
    let one : flat_map f (x.now ∷ []) ≡ f x.now = append-nil (f x.now) in
    ap (λ bs. flat_map f (map now (take i xs)) ++ bs) (sym one) ∙ sym (flat_map-append f (map now (take i xs)) (x.now ∷ []))
    ∙ ap (flat_map f) (sym (ap (map now) next ∙ map_push now (take i xs) x))

-- ---- the packages of nodes

at-next : (packages : List PackageData) (nodes : List ℕ) (i node : ℕ) → i < length nodes → node ≡ get_or nodes i node
    → packages_at packages (take (i + 1) nodes) ≡ packages_at packages (take i nodes) ++ packages_at packages (node ∷ [])
at-next packages nodes i node low is =
    ap (packages_at packages) (take_more nodes i node low ∙ ap (λ m. take i nodes ++ m ∷ []) (sym is)) ∙ filter_map-append (λ n. slice_get packages n) (take i nodes) (node ∷ [])

pub packages-put : (packages : List PackageData) (nodes : List ℕ) (i node : ℕ) (p : PackageData) (so longer : List PackageData) → i < length nodes → node ≡ get_or nodes i node
    → slice_get packages node ≡ Some p → so ≡ packages_at packages (take i nodes) → longer ≡ so ++ p ∷ [] → longer ≡ packages_at packages (take (i + 1) nodes)
packages-put packages nodes i node p so longer low is at are long =
    let one : packages_at packages (node ∷ []) ≡ p ∷ [] = rw at refl in
    long ∙ ap (λ (ps : List PackageData). ps ++ p ∷ []) are ∙ ap (λ (ps : List PackageData). packages_at packages (take i nodes) ++ ps) (sym one) ∙ sym (at-next packages nodes i node low is)

pub packages-pass : (packages : List PackageData) (nodes : List ℕ) (i node : ℕ) (so : List PackageData) → i < length nodes → node ≡ get_or nodes i node
    → slice_get packages node ≡ None → so ≡ packages_at packages (take i nodes) → so ≡ packages_at packages (take (i + 1) nodes)
packages-pass packages nodes i node so low is at are =
    let none : packages_at packages (node ∷ []) ≡ [] = rw at refl in
    are ∙ sym (append-nil (packages_at packages (take i nodes))) ∙ ap (λ (ps : List PackageData). packages_at packages (take i nodes) ++ ps) (sym none) ∙ sym (at-next packages nodes i node low is)

-- a list without its first
pub first-removed : {X Y : Type 0} (f : X → Y) (xs : List X) → map f (drop 1 xs) ≡ drop 1 (map f xs)
first-removed f [] = refl
first-removed f (x ∷ xs) = refl

-- what is made of a list the other way round
pub map-reverse : {X Y : Type 0} (f : X → Y) (xs : List X) → map f (reverse xs) ≡ reverse (map f xs)
map-reverse f [] = refl
map-reverse f (x ∷ xs) =
    ap (map f) (reverse-append (x ∷ []) xs) ∙ map-append f (reverse xs) (x ∷ []) ∙ ap (λ ys. ys ++ f x ∷ []) (map-reverse f xs) ∙ sym (reverse-append (f x ∷ []) (map f xs))
