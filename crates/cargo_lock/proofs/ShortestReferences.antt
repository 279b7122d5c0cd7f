-- The texts of references in a written table.
use Rattle.std.proofs.Common.{inl, inr, ◌≡◌, ◌+◌, ℕ, zero, suc, Bool, true, false, cond, ◌||◌, List, [], ◌∷◌, map, filter, Option, Some, None, IfSome, Result, Ok, Err, IfOk, IsPermutation, slice_get, count_by, option_map, codes, refl, ap, ◌∙◌, sym, subst}
use Rattle.std.specs.List.{AllByRecursion, list_any}
use Rattle.std.proofs.lemmas.Bool.{cases_Bool, false≢true, and_parts}
use Rattle.std.proofs.lemmas.List.Sorted.{sum_by-IsPermutation}
use Rattle.std.proofs.lemmas.List.Sums.{sum_by-cons}
use Rattle.std.proofs.lemmas.Option.{same_Some, none-some}
use Rattle.semver.specs.Identifiers.{parts_text}
use Rattle.toml.specs.Data.{Data, string, array, integer, Members, get_member}
use Rattle.toml.specs.View.{items_of}
use Rattle.cargo_lock_parts.specs.Identity.{Identity, IdentityKey, PackageData, identity_of}
use Rattle.cargo_lock_parts.specs.Source.{Source, is_path}
use Rattle.cargo_lock_parts.specs.SourceKey.{Key, key_of}
use Rattle.cargo_lock_references.specs.declared.version.ResolveVersion.{ResolveVersion}
use Rattle.cargo_lock_references.specs.declared.version.ResolveVersion.TheVariants.{V1, V2, V3, V4}
use Rattle.cargo_lock_references.specs.WrittenReference.{has_name_and_version, has_name, written_reference, in_full, shorten}
use Rattle.cargo_lock_references.specs.Reference.{Reference, reference_text}
use Rattle.cargo_lock_references.specs.ReferenceOrder.{reference_key}
use Rattle.cargo_lock_references.specs.Metadata.{metadata_of}
use Rattle.cargo_lock_parts.specs.Optional.{◌>>=◌}
use Rattle.cargo_lock_references.specs.Records.{EncodedPackage}
use Rattle.cargo_lock_encoding.specs.Lockfiles.{LockfileData, is_escaped_number}
use Rattle.cargo_lock_references.specs.ResolutionSearch.{same_text}
use Rattle.cargo_lock.specs.Shortest.{AreDistinct, HasShortestReferences, IsAmong, IsShortening, ShortestReferences, WrittenByBearers, namesakes, bears_some, item_at, package_at, reference_at}
use Rattle.cargo_lock_encoding.specs.Survives.{ListedSurvives, Survives}
use Rattle.cargo_lock_references.specs.ReadBack.{SourceSurvives}
use Rattle.cargo_lock_encoding.specs.Table.{checksum_value, encoded_of, encoded_table, encoded_package_of, package_table, encoded_package_value, reference_value, metadata_value, packages_value, patch_value, encoded_root, source_value, table_of, written_version}
use Rattle.cargo_lock_lines.specs.TableOfWords.{present_members, unless_empty}
use Rattle.toml_fields.specs.Fields.{members_in, required_list, text_in}
use Rattle.cargo_lock_references.proofs.WrittenReferenceLemmas.{count-miss}
use Rattle.cargo_lock.proofs.ReferenceTexts.{Alike, whole-reads}
use Rattle.cargo_lock.proofs.ResolutionKeys.{written_reference-of}
use Rattle.cargo_lock.proofs.ShortestWords.{IsWrittenWell, HasNoPathSource, chosen-well}

-- ---- places

item-map : {X : Type 0} (f : X → Data) (xs : List X) (k : ℕ) (x : X) → slice_get xs k ≡ Some x → item_at (items_of (map f xs)) k ≡ Some (f x)
item-map f [] k x at = absurd (none-some x at)
item-map f (y ∷ ys) zero x at = ap (λ z. Some (f z)) (same_Some y x at)
item-map f (y ∷ ys) (suc k) x at = item-map f ys k x at

pub map-at : {X Y : Type 0} (f : X → Y) (xs : List X) (k : ℕ) (x : X) → slice_get xs k ≡ Some x → slice_get (map f xs) k ≡ Some (f x)
map-at f [] k x at = absurd (none-some x at)
map-at f (y ∷ ys) zero x at = ap (λ z. Some (f z)) (same_Some y x at)
map-at f (y ∷ ys) (suc k) x at = map-at f ys k x at

pub all-at : {X : Type 0} (P : X → Type 0) (xs : List X) (k : ℕ) (x : X) → AllByRecursion P xs → slice_get xs k ≡ Some x → P x
all-at P [] k x h at = absurd (none-some x at)
all-at P (y ∷ ys) zero x h at = subst P (same_Some y x at) h.0
all-at P (y ∷ ys) (suc k) x h at = all-at P ys k x h.1 at

from-map : {X Y : Type 0} (f : X → Y) (xs : List X) (k : ℕ) (y : Y) → slice_get (map f xs) k ≡ Some y → (x : X) × (slice_get xs k ≡ Some x) × (f x ≡ y)
from-map f [] k y at = absurd (none-some y at)
from-map f (x ∷ xs) zero y at = (x, refl, same_Some _ _ at)
from-map f (x ∷ xs) (suc k) y at = from-map f xs k y at

-- ---- the package at a place

packages-member : (m : Option Data) (k : Data) (rest : List (List ℕ × Option Data))
    → get_member (codes "package") (present_members ((codes "metadata", m) ∷ (codes "package", Some k) ∷ rest)) ≡ Some k
packages-member None k rest = refl
packages-member (Some m) k rest = refl

abbrev entries : LockfileData → List EncodedPackage
entries l = map (encoded_package_of l.version (map identity_of l.packages)) l.packages

package-member : (l : LockfileData) → get_member (codes "package") (table_of l) ≡ Some (packages_value (entries l))
unfolding encoded_table encoded_of
package-member l = packages-member (metadata_value (metadata_of l.version l.metadata l.packages)) (packages_value (entries l)) (
    (codes "patch", patch_value (is_escaped_number (written_version l.version)) l.patch)
    ∷ (codes "root", option_map encoded_package_value (option_map (encoded_root l.version) l.root))
    ∷ (codes "version", option_map integer (written_version l.version)) ∷ [])

package-at : (l : LockfileData) (k : ℕ) (p : PackageData) → slice_get l.packages k ≡ Some p
    → package_at (table_of l) k ≡ Some (package_table (encoded_package_of l.version (map identity_of l.packages) p))
package-at l k p at =
    ap (λ (o : Option Data). required_list o >>= λ packages. item_at packages k >>= members_in) (package-member l)
    ∙ ap (λ (o : Option Data). o >>= members_in)
    (item-map encoded_package_value (entries l) k _ (map-at (encoded_package_of l.version (map identity_of l.packages)) l.packages k p at))

-- ---- the reference at a place

references-member : (c : Option Data) (d : Data) (rest : List (List ℕ × Option Data))
    → get_member (codes "dependencies") (present_members ((codes "checksum", c) ∷ (codes "dependencies", Some d) ∷ rest)) ≡ Some d
references-member None d rest = refl
references-member (Some c) d rest = refl

nonempty : (fs : List Reference) (j : ℕ) (f : Reference) → slice_get fs j ≡ Some f → unless_empty (map reference_value fs) ≡ Some (array (items_of (map reference_value fs)))
nonempty [] j f at = absurd (none-some f at)
nonempty (g ∷ gs) j f at = refl

entry-reference : (e : EncodedPackage) (j : ℕ) (f : Reference) → slice_get e.dependencies j ≡ Some f
    → (required_list (get_member (codes "dependencies") (package_table e)) >>= λ references. item_at references j >>= text_in) ≡ Some (reference_text f)
entry-reference e j f at =
    let after : List (List ℕ × Option Data) =
    (codes "name", Some (string e.name)) ∷ (codes "replace", option_map reference_value e.replace)
    ∷ (codes "source", option_map source_value e.source) ∷ (codes "version", Some (string (parts_text e.version))) ∷ [] in
    let c = option_map checksum_value e.checksum in
    let member : get_member (codes "dependencies") (package_table e) ≡ Some (array (items_of (map reference_value e.dependencies))) =
    ap (λ (d : Option Data). get_member (codes "dependencies") (present_members ((codes "checksum", c) ∷ (codes "dependencies", d) ∷ after))) (nonempty e.dependencies j f at)
    ∙ references-member c (array (items_of (map reference_value e.dependencies))) after in
    ap (λ (o : Option Data). required_list o >>= λ references. item_at references j >>= text_in) member
    ∙ ap (λ (o : Option Data). o >>= text_in) (item-map reference_value e.dependencies j f at)

reference-at : (l : LockfileData) (k j : ℕ) (p : PackageData) (d : Identity) → slice_get l.packages k ≡ Some p → slice_get p.dependencies j ≡ Some d
    → reference_at (table_of l) k j ≡ Some (reference_text (written_reference l.version (map identity_of l.packages) d))
reference-at l k j p d here there =
    ap (λ (o : Option Members). o >>= λ entry. required_list (get_member (codes "dependencies") entry) >>= λ references. item_at references j >>= text_in) (package-at l k p here)
    ∙ entry-reference (encoded_package_of l.version (map identity_of l.packages) p) j (written_reference l.version (map identity_of l.packages) d)
    (map-at (written_reference l.version (map identity_of l.packages)) p.dependencies j d there)

-- ---- shortest

alike-key : (f g : Reference) → Alike f g → reference_key g ≡ reference_key f
alike-key f g h = λ i. record { name = h.name i; version = h.version i; source = h.source i }

source-path : (s t : Option Source) → option_map key_of s ≡ option_map key_of t → IfSome s (λ x. is_path x.kind ≡ false) → IfSome t (λ x. is_path x.kind ≡ false)
source-path None None e h = tt
source-path None (Some t) e h = absurd (none-some (key_of t) e)
source-path (Some s) None e h = tt
source-path (Some s) (Some t) e h = sym (ap (λ (k : Key). is_path k.kind) (same_Some _ _ e)) ∙ h

-- a dependency that is among packages that survive has no path for a source
among-written : (l : LockfileData) (d : Identity) → Survives l l.version → IsAmong (map identity_of l.packages) d → HasNoPathSource d
among-written l d h among =
    let p = from-map identity_of l.packages among.0 among.1 among.2 in
    let s = all-at (ListedSurvives l.version (map identity_of l.packages) (metadata_of l.version l.metadata l.packages)) l.packages among.0 p.0 h.packages p.1 in
    let key : option_map key_of p.0.source ≡ option_map key_of d.source =
    ap (λ (i : Identity). option_map key_of i.source) p.2 ∙ ap (λ (k : IdentityKey). k.source) among.3 in
    source-path p.0.source d.source key (no_path _ p.0.source s.0.own.source)
  where
    no_path : (escaped : Bool) (o : Option Source) → IfSome o (SourceSurvives escaped) → IfSome o (λ x. is_path x.kind ≡ false)
    no_path escaped None h = tt
    no_path escaped (Some x) h = h.0

chosen-case : (format : ResolveVersion) (list : List Identity) (d : Identity) → IsShortening format → HasNoPathSource d → AreDistinct list → IsAmong list d
    → IsWrittenWell (written_reference format list d) list d
unfolding written_reference
chosen-case V1 list d later h apart among = absurd later
chosen-case V2 list d later h apart among = chosen-well false list d h apart among
chosen-case V3 list d later h apart among = chosen-well false list d h apart among
chosen-case V4 list d later h apart among = chosen-well true list d h apart among

pub shortest-references : ShortestReferences
shortest-references l h later apart k j p d here there among =
    let list = map identity_of l.packages in
    let f = written_reference l.version list d in
    let w = chosen-case l.version list d later (among-written l d h among) apart among in
    let s = all-at (ListedSurvives l.version list (metadata_of l.version l.metadata l.packages)) l.packages k p h.packages here in
    let r = all-at _ p.dependencies j d s.0.dependencies there in
    let g = whole-reads f (written_reference-of l.version list d).whole r.written in
    record {
      reference = f;
      written = reference-at l k j p d here there;
      read = (g.0, g.1, alike-key f g.0 g.2);
      names = w.names;
      least = w.least;
    }

-- ---- what a written package depends on

count-filter : {X : Type 0} (q r : X → Bool) → ((x : X) → q x ≡ true → r x ≡ true) → (xs : List X) → count_by q (filter r xs) ≡ count_by q xs
count-filter {X = X} q r within [] = refl
count-filter {X = X} q r within (x ∷ xs) = elim (cases_Bool (r x)) [
  | inl kept ↦ rw kept (
      sum_by-cons (λ y. cond (q y) 1 0) x (filter r xs) ∙ ap (λ n. cond (q x) 1 0 + n) (count-filter q r within xs)
      ∙ sym (sum_by-cons (λ y. cond (q y) 1 0) x xs))
  | inr dropped ↦ rw dropped (
      count-filter q r within xs
      ∙ sym (count-miss q x xs (unmet x dropped)))
]
  where
    unmet : (x : X) → r x ≡ false → q x ≡ false
    unmet x dropped = elim (cases_Bool (q x)) [
      | inl hit ↦ absurd (false≢true (sym dropped ∙ within x hit))
      | inr miss ↦ miss
    ]

any-at : {X : Type 0} (q : X → Bool) (xs : List X) (k : ℕ) (x : X) → slice_get xs k ≡ Some x → q x ≡ true → list_any q xs ≡ true
any-at q [] k x at hit = absurd (none-some x at)
any-at q (y ∷ ys) zero x at hit = rw (same_Some y x at, hit) refl
any-at q (y ∷ ys) (suc k) x at hit = rw (any-at q ys k x at hit) (either (q y))
  where
    either : (b : Bool) → (b || true) ≡ true
    either true = refl
    either false = refl

-- as many places pass a test in two lists of packages where the same ones bear the names
same-count : (q : Identity → Bool) (p : PackageData) (ps qs : List PackageData) → ((i : Identity) → q i ≡ true → bears_some p i ≡ true)
    → IsPermutation (namesakes p ps) (namesakes p qs) → count_by q (map identity_of ps) ≡ count_by q (map identity_of qs)
same-count q p ps qs within perm =
    sym (count-filter q (bears_some p) within (map identity_of ps))
    ∙ sym (sum_by-IsPermutation (λ i. cond (q i) 1 0) (namesakes p ps) (namesakes p qs) perm)
    ∙ count-filter q (bears_some p) within (map identity_of qs)

same-shorten : (list other : List Identity) (escaped : Bool) (d : Identity) → count_by (has_name d.name) list ≡ count_by (has_name d.name) other
    → count_by (has_name_and_version d.name d.version) list ≡ count_by (has_name_and_version d.name d.version) other → shorten list (in_full escaped d) ≡ shorten other (in_full escaped d)
unfolding shorten
same-shorten list other escaped d names both = rw (names, both) refl

same-chosen : (format : ResolveVersion) (list other : List Identity) (d : Identity) → count_by (has_name d.name) list ≡ count_by (has_name d.name) other
    → count_by (has_name_and_version d.name d.version) list ≡ count_by (has_name_and_version d.name d.version) other → written_reference format list d ≡ written_reference format other d
unfolding written_reference
same-chosen V1 list other d names both = refl
same-chosen V2 list other d names both = same-shorten list other false d names both
same-chosen V3 list other d names both = same-shorten list other false d names both
same-chosen V4 list other d names both = same-shorten list other true d names both

map-alike : {X Y : Type 0} (f g : X → Y) (xs : List X) → ((k : ℕ) (x : X) → slice_get xs k ≡ Some x → f x ≡ g x) → map f xs ≡ map g xs
map-alike f g [] each = refl
map-alike f g (x ∷ xs) each = let h = each 0 x refl in let t = map-alike f g xs (λ k y at. each (suc k) y at) in λ i. h i ∷ t i

same-entry : (format : ResolveVersion) (p : PackageData) (ps qs : List PackageData) → IsPermutation (namesakes p ps) (namesakes p qs)
    → encoded_package_of format (map identity_of ps) p ≡ encoded_package_of format (map identity_of qs) p
same-entry format p ps qs perm =
    let each = map-alike (written_reference format (map identity_of ps)) (written_reference format (map identity_of qs)) p.dependencies (λ k d at.
    let within = λ (i : Identity) (hit : has_name d.name i ≡ true). any-at (λ e. same_text i.name e.name) p.dependencies k d at hit in
    same-chosen format (map identity_of ps) (map identity_of qs) d
    (same-count (has_name d.name) p ps qs within perm)
    (same-count (has_name_and_version d.name d.version) p ps qs (λ i hit. within i (and_parts _ _ hit).0) perm)) in
    let e = encoded_package_of format (map identity_of ps) p in
    λ i. record { name = e.name; version = e.version; source = e.source; checksum = e.checksum; dependencies = each i; replace = e.replace }

pub written-by_bearers : WrittenByBearers
written-by_bearers l m j k p version here there perm =
    package-at l j p here
    ∙ ap (λ (e : EncodedPackage). Some (package_table e)) (same-entry l.version p l.packages m.packages perm ∙ (λ i. encoded_package_of (version i) (map identity_of m.packages) p))
    ∙ sym (package-at m k p there)

-- what is said of the table of the lockfile holds of a call's answer
pub shortest-of : {T E : Type 0} (view : T → Members) (l : LockfileData) (r : Result T E) → IfOk r (λ t. view t ≡ table_of l) → IfOk r (λ t. HasShortestReferences l (view t))
shortest-of view l (Ok t) h = subst (HasShortestReferences l) (sym h) (shortest-references l)
shortest-of view l (Err e) h = tt
