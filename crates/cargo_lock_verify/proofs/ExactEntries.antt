-- What is found of entries is exactly what the relations say.
use Rattle.std.proofs.Common.{◌≡◌, ◌≢◌, ◌&&◌, ◌⊎◌, inl, inr, ℕ, Bool, true, false, true≢false, List, [], ◌∷◌, Option, None, Some, is_some, refl, ap, sym, ◌∙◌, subst, if◌then◌else◌}
use Rattle.std.specs.List.{Contains}
use Rattle.std.proofs.lemmas.Bool.{and_parts}
use Rattle.std.proofs.lemmas.List.Folds.{Any-from_list_any, list_any-from_Any}
use Rattle.semver.specs.Parse.{Parts}
use Rattle.lists.proofs.Members.{contains-cases as cases, first-in as first, in-joined, joined-in, none-in as no-element}
use Rattle.cargo_lock_references.proofs.ResolvesToLemmas.{same_parts-refl, same_parts-yes, same_text-refl, same_text-yes}
use Rattle.cargo_lock_references.specs.ResolutionSearch.{same_parts, same_text}
use Rattle.cargo_lock_verify.specs.declared.entry.Flaw.{Flaw}
use Rattle.cargo_lock_verify.specs.declared.entry.Flaw.TheVariants as flaw
use Rattle.cargo_lock_verify.specs.declared.entry.Others.{Others}
use Rattle.cargo_lock_verify.specs.declared.entry.Others.TheVariants as others
use Rattle.cargo_lock_verify.specs.Entries.{ContentData, EntryFindingsAreExact, Folder, IsFolderOfPackage, IsOfAnother, LinesOfEntriesAreExact, Link, LinkedManifest, Nameless, PassedOver}
use Rattle.cargo_lock_verify.specs.Entries.{entry_found, flaw_of, flaw_of_folder, flaw_of_other, found_at, is_folder_of, has_folder_of}
use Rattle.cargo_lock_verify.specs.Vendored.{FolderFindingData, OfEntry, VendoredData}

-- ---- folders of packages

wanted-is : (all : List VendoredData) (name : List ℕ) (version : Parts) → has_folder_of all name version ≡ true → IsFolderOfPackage all (Folder name version)
wanted-is all name version e =
    let (k, v, low, at, passes) = Any-from_list_any (is_folder_of name version) all e in
    let sourced = and_parts (is_some v.content.source) (same_text v.content.name name && same_parts v.content.version version) passes in
    let named = and_parts (same_text v.content.name name) (same_parts v.content.version version) sourced.1 in (
      v,
      (k, low, at),
      sourced.0,
      ap (λ n. Folder n version) (sym (same_text-yes _ _ named.0))
          ∙ ap (Folder v.content.name) (sym (same_parts-yes _ _ named.1)),
    )

is-wanted : (all : List VendoredData) (v : VendoredData) → Contains all v → is_some v.content.source ≡ true
    → has_folder_of all v.content.name v.content.version ≡ true
is-wanted all v there has = let (k, low, at) = there in list_any-from_Any (is_folder_of v.content.name v.content.version) all
    (k, v, low, at, rw (has, same_text-refl v.content.name) (same_parts-refl v.content.version))

-- ---- entries without a line

no-finding : (path : List ℕ) (o : Option Flaw) → found_at path o ≡ [] → o ≡ None
no-finding path None e = refl
no-finding path (Some f) e = absurd (no-element (OfEntry path f) (subst (λ xs. Contains xs (OfEntry path f)) e (first (OfEntry path f) [])))

some-flaw : (f : Flaw) → Some f ≢ None
some-flaw f e = true≢false (ap is_some e)

other-passed : (who : Others) → flaw_of_other who ≡ None → who ≡ others.PassedOver
other-passed others.Reported e = absurd (some-flaw flaw.OfNoPackage e)
other-passed others.PassedOver e = refl

-- why nothing is found of what an entry is
abbrev IsQuiet : Others → List VendoredData → ContentData → Type 0
IsQuiet who all c = (c ≡ PassedOver) ⊎ (IsFolderOfPackage all c ⊎ IsOfAnother who c)

quiet-folder : (who : Others) (all : List VendoredData) (name : List ℕ) (version : Parts) → flaw_of_folder who all name version ≡ None
    → IsQuiet who all (Folder name version)
quiet-folder who all name version = by (has_folder_of all name version) refl
  where
    by : (b : Bool) → has_folder_of all name version ≡ b → (if b then None else flaw_of_other who) ≡ None → IsQuiet who all (Folder name version)
    by true e none = inr (inl (wanted-is all name version e))
    by false e none = inr (inr (other-passed who none, (name, (version, refl))))

quiet-so : (who : Others) (all : List VendoredData) (c : ContentData) → flaw_of who all c ≡ None → IsQuiet who all c
quiet-so who all PassedOver e = inl refl
quiet-so who all Link e = absurd (some-flaw flaw.Link e)
quiet-so who all LinkedManifest e = absurd (some-flaw flaw.LinkedManifest e)
quiet-so who all Nameless e = absurd (some-flaw flaw.Nameless e)
quiet-so who all (Folder name version) e = quiet-folder who all name version e

package-quiet : (who : Others) (all : List VendoredData) (v : VendoredData) → Contains all v → is_some v.content.source ≡ true
    → flaw_of_folder who all v.content.name v.content.version ≡ None
package-quiet who all v there has = ap (λ (b : Bool). if b then None else flaw_of_other who) (is-wanted all v there has)

other-quiet : (all : List VendoredData) (name : List ℕ) (version : Parts) → flaw_of_folder others.PassedOver all name version ≡ None
other-quiet all name version = by (has_folder_of all name version)
  where
    by : (b : Bool) → (if b then None else flaw_of_other others.PassedOver) ≡ None
    by true = refl
    by false = refl

so-quiet : (who : Others) (all : List VendoredData) (c : ContentData) → IsQuiet who all c → flaw_of who all c ≡ None
so-quiet who all c h = elim h [
  | inl passed ↦ ap (flaw_of who all) passed
  | inr (inl (v, there, has, is)) ↦ ap (flaw_of who all) is ∙ package-quiet who all v there has
  | inr (inr (passed, (name, (version, is)))) ↦ ap (flaw_of who all) is ∙ ap (λ (w : Others). flaw_of_folder w all name version) passed ∙ other-quiet all name version
]

pub lines-of-entries-are-exact : LinesOfEntriesAreExact
lines-of-entries-are-exact who all e = (
  λ none. quiet-so who all e.content (no-finding e.path (flaw_of who all e.content) none),
  λ h. ap (found_at e.path) (so-quiet who all e.content h),
)

-- ---- what is found

found-so : (path : List ℕ) (o : Option Flaw) (x : FolderFindingData) → Contains (found_at path o) x → (f : Flaw) × (o ≡ Some f) × (x ≡ OfEntry path f)
found-so path None x h = absurd (no-element x h)
found-so path (Some f) x h = elim (cases (OfEntry path f) [] x h) [
  | inl same ↦ (f, refl, sym same)
  | inr later ↦ absurd (no-element x later)
]

pub entry-findings-are-exact : EntryFindingsAreExact
entry-findings-are-exact who all entries x = (
  λ h. let (e, there, here) = joined-in (entry_found who all) entries x h in (e, there, found-so e.path (flaw_of who all e.content) x here),
  λ h. let (e, there, (f, is, same)) = h in in-joined (entry_found who all) entries e x there
      (subst (λ o. Contains (found_at e.path o) x) (sym is) (subst (λ y. Contains (OfEntry e.path f ∷ []) y) (sym same) (first (OfEntry e.path f) []))),
)
