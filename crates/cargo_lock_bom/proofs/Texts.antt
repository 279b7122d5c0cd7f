-- Entries by the texts that refer to packages.
use Rattle.std.proofs.Common.{◌≡◌, ◌∙◌, ℕ, List, [], ◌∷◌, Option, None, Some, ap, ap₂, codes, map, refl, slice_get, unwrap_or, option_map}
use Rattle.std.proofs.lemmas.Option.{slice_get-map}
use Rattle.serde_json.specs.Data.{Data, array, member, no_members, object, string}
use Rattle.serde_json.specs.View.{items_of}
use Rattle.cargo_lock_parts.specs.Identity.{PackageData}
use Rattle.cargo_lock_bom.specs.declared.dependencies.Entry.{Entry}
use Rattle.cargo_lock_bom.specs.Contents.{entry_by, entry_for, own_reference, own_text, text_at}
use Rattle.cargo_lock_bom.specs.Dependencies.{entry_with, node_reference, reference_if}
use Rattle.cargo_lock_bom.specs.References.{package_reference}

if_same : (o : Option PackageData) → unwrap_or (option_map package_reference o) [] ≡ reference_if o
if_same None = refl
if_same (Some p) = refl

-- the text of a node is that of its package
pub text_same : (packages : List PackageData) (k : ℕ) → text_at (map package_reference packages) k ≡ node_reference packages k
text_same packages k =
    ap (λ (o : Option (List ℕ)). unwrap_or o []) (slice_get-map package_reference packages k) ∙ if_same (slice_get packages k)

-- the text of the node of a package
pub text_of : (packages : List PackageData) (k : ℕ) (p : PackageData) (texts : List (List ℕ)) → texts ≡ map package_reference packages → slice_get packages k ≡ Some p
    → text_at texts k ≡ package_reference p
text_of packages k p texts are at =
    ap (λ (ts : List (List ℕ)). text_at ts k) are ∙ text_same packages k ∙ ap reference_if at

own_same : (packages : List PackageData) (of : Option ℕ) → own_text (map package_reference packages) of ≡ own_reference packages of
own_same packages None = refl
own_same packages (Some k) = text_same packages k

-- maps by functions that are the same at each element
map_same : {X Y : Type 0} (f g : X → Y) → ((x : X) → f x ≡ g x) → (xs : List X) → map f xs ≡ map g xs
map_same f g same [] = refl
map_same f g same (x ∷ xs) = ap₂ (λ y ys. y ∷ ys) (same x) (map_same f g same xs)

entry_same : (packages : List PackageData) (e : Entry) → entry_by (map package_reference packages) e ≡ entry_for packages e
unfolding entry_with
entry_same packages e =
    ap₂ (λ (on : List Data) (own : List ℕ). object (member (codes "dependsOn") (array (items_of on)) (member (codes "ref") (string own) no_members)))
    (map_same (λ (k : ℕ). string (text_at (map package_reference packages) k)) (λ (k : ℕ). string (node_reference packages k)) (λ k. ap string (text_same packages k)) e.on.items)
    (own_same packages e.of)

-- the entries by the texts that refer to packages
pub entries_same : (packages : List PackageData) (texts : List (List ℕ)) (es : List Entry) → texts ≡ map package_reference packages
    → map (entry_by texts) es ≡ map (entry_for packages) es
entries_same packages texts es are =
    ap (λ (ts : List (List ℕ)). map (entry_by ts) es) are ∙ map_same (entry_by (map package_reference packages)) (entry_for packages) (entry_same packages) es
