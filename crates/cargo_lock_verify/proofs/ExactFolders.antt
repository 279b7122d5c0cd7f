-- What is found of folders is exactly what the relations say.
use Rattle.std.proofs.Common.{◌≡◌, ◌≢◌, ◌++◌, ℕ, Bool, true, false, true≢false, List, [], ◌∷◌, Option, None, Some, IsSome, is_none, is_some, map, refl, ap, sym, ◌∙◌, inl, inr, subst, if◌then◌else◌, bytes_eq, option_map, string_bytes}
use Rattle.std.specs.BTreeMap.{get_by_text}
use Rattle.std.specs.List.{All, Contains, flat_map}
use Rattle.std.specs.Option.{option_eq}
use Rattle.std.proofs.lemmas.Slice.Eq.{bytes_eq-Decides}
use Rattle.std.proofs.lemmas.Option.{same_Some}
use Rattle.std.proofs.lemmas.List.Elements.{All-append, All-cons, All-contains, All-contains_itself, All-map, All-nil, All-weaker, Contains-append_left, Contains-append_right}
use Rattle.cargo_lock_parts.specs.Checksum.{digest_of}
use Rattle.cargo_lock_parts.specs.Identity.{PackageData}
use Rattle.cargo_lock_parts.specs.Source.{Source}
use Rattle.cargo_lock_verify.specs.declared.folder.Folder.{Folder}
use Rattle.cargo_lock_verify.specs.Vendored.{Absent, FolderFindingData, FolderFindingsAreExact, IsAsListed, IsFolderFindingOf, IsFoundIn, IsVendored, IsOfRegistryWithout, Link, ListedData, NoChecksum, NoFolder, NoneIfVendored, OfEntry, OtherArchive, OtherFile, Unlisted, VendoredData}
use Rattle.cargo_lock_verify.specs.Vendored.{archive_found, checksum_found, digest_at, files_found, files_of, folder_findings, folder_found, folders_found, found_by_source, is_same_archive, is_unchecked, links_found, listed_by, listed_found, of_file, of_listed, vendored_found}
use Rattle.lists.proofs.Members.{contains-cases as cases, first-in as first, in-joined as in-flat, in-map, later-in as later, none-in as no-element}
use Rattle.lists.proofs.Members.{none-left as no-elements}

-- ---- digests that may be absent

same-if : (x y : Option (List ℕ)) → option_eq bytes_eq x y ≡ true → x ≡ y
same-if None None e = refl
same-if None (Some b) e = absurd (true≢false (sym e))
same-if (Some a) None e = absurd (true≢false (sym e))
same-if (Some a) (Some b) e = ap Some ((bytes_eq-Decides a b).0 e)

if-same : (x y : Option (List ℕ)) → x ≡ y → option_eq bytes_eq x y ≡ true
if-same x y e = subst (λ z. option_eq bytes_eq x z ≡ true) e (itself x)
  where
    itself : (z : Option (List ℕ)) → option_eq bytes_eq z z ≡ true
    itself None = refl
    itself (Some a) = (bytes_eq-Decides a a).1 refl

absent-at : (f : Folder) (path : List ℕ) → is_none (get_by_text f.listed path) ≡ true → digest_at f.listed path ≡ None
absent-at f path = by (get_by_text f.listed path)
  where
    by : (o : Option _) → is_none o ≡ true → option_map digest_of o ≡ None
    by None e = refl
    by (Some c) e = absurd (true≢false (sym e))

at-absent : (f : Folder) (path : List ℕ) → digest_at f.listed path ≡ None → is_none (get_by_text f.listed path) ≡ true
at-absent f path = by (get_by_text f.listed path)
  where
    by : (o : Option _) → option_map digest_of o ≡ None → is_none o ≡ true
    by None e = refl
    by (Some c) e = absurd (true≢false (ap is_some e))

present-at : (f : Folder) (path : List ℕ) → is_none (get_by_text f.listed path) ≡ false → IsSome (digest_at f.listed path)
present-at f path = by (get_by_text f.listed path)
  where
    by : (o : Option _) → is_none o ≡ false → IsSome (option_map digest_of o)
    by None e = absurd (true≢false e)
    by (Some c) e = search

-- ---- what is found is so

archive-so : (p : PackageData) (f : Folder) → All (IsFoundIn p f) (archive_found p f)
archive-so p f = by (is_same_archive p f) refl
  where
    by : (b : Bool) → is_same_archive p f ≡ b → All (IsFoundIn p f) (if b then [] else OtherArchive p f ∷ [])
    by true e = All-nil (IsFoundIn p f)
    by false e = All-cons (IsFoundIn p f) (OtherArchive p f) []
        (refl, refl, λ same. true≢false (sym (if-same _ _ same) ∙ e)) (All-nil (IsFoundIn p f))

listed-so : (p : PackageData) (f : Folder) (l : ListedData) → Contains (files_of f.listed) l → All (IsFoundIn p f) (of_listed p f l)
listed-so p f l there = by (digest_at f.files l.path) refl
  where
    by : (o : Option (List ℕ)) → digest_at f.files l.path ≡ o → All (IsFoundIn p f) (listed_by p f l o)
    by None is = All-cons (IsFoundIn p f) (Absent p f l.path) [] (refl, refl, (l, there, refl, is)) (All-nil (IsFoundIn p f))
    by (Some d) is = either (bytes_eq d l.digest) refl
      where
        either : (b : Bool) → bytes_eq d l.digest ≡ b
            → All (IsFoundIn p f) (if b then [] else OtherFile p f l.path d l.digest ∷ [])
        either true e = All-nil (IsFoundIn p f)
        either false e = All-cons (IsFoundIn p f) (OtherFile p f l.path d l.digest) []
            (refl, refl, there, is, λ same. true≢false (sym ((bytes_eq-Decides d l.digest).1 same) ∙ e)) (All-nil (IsFoundIn p f))

file-so : (p : PackageData) (f : Folder) (l : ListedData) → Contains (files_of f.files) l → All (IsFoundIn p f) (of_file p f l)
file-so p f l there = by (is_none (get_by_text f.listed l.path)) refl
  where
    by : (b : Bool) → is_none (get_by_text f.listed l.path) ≡ b → All (IsFoundIn p f) (if b then Unlisted p f l.path ∷ [] else [])
    by true e = All-cons (IsFoundIn p f) (Unlisted p f l.path) [] (refl, refl, (l, there, refl, absent-at f l.path e)) (All-nil (IsFoundIn p f))
    by false e = All-nil (IsFoundIn p f)

link-so : (p : PackageData) (f : Folder) → All (IsFoundIn p f) (links_found p f)
link-so p f = All-map (IsFoundIn p f) (λ l. Link p f (string_bytes l)) f.links.items
    (All-weaker (Contains f.links.items) (λ l. IsFoundIn p f (Link p f (string_bytes l)))
    (λ l there. (refl, refl, in-map string_bytes f.links.items l there)) f.links.items (All-contains_itself f.links.items))

-- where P holds of what F gives of each element, it holds of all of it
flat-so : {X Y : Type 0} (P : Y → Type 0) (F : X → List Y) (xs : List X) → ((x : X) → Contains xs x → All P (F x)) → All P (flat_map F xs)
flat-so P F [] h = All-nil P
flat-so P F (x ∷ xs) h = All-append P (F x) (flat_map F xs) (h x (first x xs)) (flat-so P F xs (λ y there. h y (later x xs y there)))

folder-so : (p : PackageData) (f : Folder) → All (IsFoundIn p f) (folder_found p f)
folder-so p f = All-append (IsFoundIn p f) (archive_found p f) _ (archive-so p f)
    (All-append (IsFoundIn p f) (listed_found p f) _ (flat-so (IsFoundIn p f) (of_listed p f) (files_of f.listed) (listed-so p f))
    (All-append (IsFoundIn p f) (files_found p f) _ (flat-so (IsFoundIn p f) (of_file p f) (files_of f.files) (file-so p f)) (link-so p f)))

of-folder : (v : VendoredData) (f : Folder) → Contains v.folders f → (x : FolderFindingData) → IsFoundIn v.content f x → IsFolderFindingOf v x
of-folder v f there (NoFolder q) h = absurd h
of-folder v f there (OtherArchive q g) h = (f, there, h)
of-folder v f there (Absent q g path) h = (f, there, h)
of-folder v f there (OtherFile q g path d l) h = (f, there, h)
of-folder v f there (Unlisted q g path) h = (f, there, h)
of-folder v f there (Link q g path) h = (f, there, h)
of-folder v f there (NoChecksum q) h = absurd h
of-folder v f there (OfEntry path flaw) h = absurd h

folders-so : (v : VendoredData) → All (IsFolderFindingOf v) (folders_found v.content v.folders)
folders-so v = by v.folders refl
  where
    by : (fs : List Folder) → v.folders ≡ fs → All (IsFolderFindingOf v) (folders_found v.content fs)
    by [] is = All-cons (IsFolderFindingOf v) (NoFolder v.content) [] (refl, is) (All-nil (IsFolderFindingOf v))
    by (f ∷ rest) is = flat-so (IsFolderFindingOf v) (folder_found v.content) (f ∷ rest)
        (λ g there. All-weaker (IsFoundIn v.content g) (IsFolderFindingOf v) (of-folder v g (subst (λ fs. Contains fs g) (sym is) there))
        (folder_found v.content g) (folder-so v.content g))

checksum-so : (v : VendoredData) → All (IsFolderFindingOf v) (checksum_found v.content)
checksum-so v = by (is_unchecked v.content) refl
  where
    by : (b : Bool) → is_unchecked v.content ≡ b → All (IsFolderFindingOf v) (if b then NoChecksum v.content ∷ [] else [])
    by true e = All-cons (IsFolderFindingOf v) (NoChecksum v.content) [] (refl, e) (All-nil (IsFolderFindingOf v))
    by false e = All-nil (IsFolderFindingOf v)

-- this is found of a package with a source
abbrev IsFoundWith : VendoredData → FolderFindingData → Type 0
IsFoundWith v x = (v.content.source ≢ None) × IsFolderFindingOf v x

vendored-so : (v : VendoredData) → All (IsFoundWith v) (vendored_found v)
vendored-so v = by v.content.source refl
  where
    by : (o : Option Source) → v.content.source ≡ o → All (IsFoundWith v) (found_by_source v o)
    by None is = All-nil (IsFoundWith v)
    by (Some s) is = All-weaker (IsFolderFindingOf v) (IsFoundWith v) (λ x h. (λ none. true≢false (ap is_some (sym is ∙ none)), h))
        (checksum_found v.content ++ folders_found v.content v.folders)
        (All-append (IsFolderFindingOf v) (checksum_found v.content) (folders_found v.content v.folders) (checksum-so v) (folders-so v))

-- this is found of one of the packages
abbrev IsFoundAmong : List VendoredData → FolderFindingData → Type 0
IsFoundAmong all x = (v : VendoredData) × Contains all v × (v.content.source ≢ None) × IsFolderFindingOf v x

all-so : (all : List VendoredData) → All (IsFoundAmong all) (folder_findings all)
all-so all = flat-so (IsFoundAmong all) vendored_found all
    (λ v there. All-weaker (IsFoundWith v) (IsFoundAmong all) (λ x h. (v, there, h.0, h.1)) (vendored_found v) (vendored-so v))

-- ---- what is so is found

archive-in : (p : PackageData) (f : Folder) → (option_map digest_of f.archive ≢ p.checksum) → Contains (archive_found p f) (OtherArchive p f)
archive-in p f other = by (is_same_archive p f) refl
  where
    by : (b : Bool) → is_same_archive p f ≡ b → Contains (if b then [] else OtherArchive p f ∷ []) (OtherArchive p f)
    by true e = absurd (other (same-if _ _ e))
    by false e = first (OtherArchive p f) []

absent-in : (p : PackageData) (f : Folder) (l : ListedData) → digest_at f.files l.path ≡ None → Contains (of_listed p f l) (Absent p f l.path)
absent-in p f l is = subst (λ o. Contains (listed_by p f l o) (Absent p f l.path)) (sym is) (first (Absent p f l.path) [])

other-in : (p : PackageData) (f : Folder) (l : ListedData) (d : List ℕ) → digest_at f.files l.path ≡ Some d → d ≢ l.digest
    → Contains (of_listed p f l) (OtherFile p f l.path d l.digest)
other-in p f l d is other = subst (λ o. Contains (listed_by p f l o) (OtherFile p f l.path d l.digest)) (sym is) (by (bytes_eq d l.digest) refl)
  where
    by : (b : Bool) → bytes_eq d l.digest ≡ b
        → Contains (if b then [] else OtherFile p f l.path d l.digest ∷ []) (OtherFile p f l.path d l.digest)
    by true e = absurd (other ((bytes_eq-Decides d l.digest).0 e))
    by false e = first (OtherFile p f l.path d l.digest) []

unlisted-in : (p : PackageData) (f : Folder) (l : ListedData) → digest_at f.listed l.path ≡ None → Contains (of_file p f l) (Unlisted p f l.path)
unlisted-in p f l is = subst (λ (b : Bool). Contains (if b then Unlisted p f l.path ∷ [] else []) (Unlisted p f l.path))
    (sym (at-absent f l.path is)) (first (Unlisted p f l.path) [])

map-in : {X : Type 0} (F : X → List ℕ) (G : List ℕ → FolderFindingData) (xs : List X) (y : List ℕ) → Contains (map F xs) y
    → Contains (map (λ x. G (F x)) xs) (G y)
map-in F G [] y h = absurd (no-element y h)
map-in F G (x ∷ xs) y h = elim (cases (F x) (map F xs) y h) [
  | inl same ↦ subst (λ z. Contains (G (F x) ∷ map (λ w. G (F w)) xs) (G z)) same (first (G (F x)) (map (λ w. G (F w)) xs))
  | inr there ↦ later (G (F x)) (map (λ w. G (F w)) xs) (G y) (map-in F G xs y there)
]

link-in : (p : PackageData) (f : Folder) (path : List ℕ) → Contains (map string_bytes f.links.items) path → Contains (links_found p f) (Link p f path)
link-in p f path h = map-in string_bytes (Link p f) f.links.items path h

in-archive : (p : PackageData) (f : Folder) (x : FolderFindingData) → Contains (archive_found p f) x → Contains (folder_found p f) x
in-archive p f x = Contains-append_left (archive_found p f) _ x

in-listed : (p : PackageData) (f : Folder) (l : ListedData) (x : FolderFindingData) → Contains (files_of f.listed) l → Contains (of_listed p f l) x
    → Contains (folder_found p f) x
in-listed p f l x there here = Contains-append_right (archive_found p f) _ x
    (Contains-append_left (listed_found p f) _ x (in-flat (of_listed p f) (files_of f.listed) l x there here))

in-files : (p : PackageData) (f : Folder) (l : ListedData) (x : FolderFindingData) → Contains (files_of f.files) l → Contains (of_file p f l) x
    → Contains (folder_found p f) x
in-files p f l x there here = Contains-append_right (archive_found p f) _ x (Contains-append_right (listed_found p f) _ x
    (Contains-append_left (files_found p f) _ x (in-flat (of_file p f) (files_of f.files) l x there here)))

in-links : (p : PackageData) (f : Folder) (x : FolderFindingData) → Contains (links_found p f) x → Contains (folder_found p f) x
in-links p f x h = Contains-append_right (archive_found p f) _ x (Contains-append_right (listed_found p f) _ x
    (Contains-append_right (files_found p f) (links_found p f) x h))

-- of the package and the folder that a finding names
named : (p : PackageData) (f : Folder) (q : PackageData) (g : Folder) (F : PackageData → Folder → FolderFindingData) → q ≡ p → g ≡ f
    → Contains (folder_found p f) (F p f) → Contains (folder_found p f) (F q g)
named p f q g F same-p same-f h = subst (λ r. Contains (folder_found p f) (F r g)) (sym same-p)
    (subst (λ e. Contains (folder_found p f) (F p e)) (sym same-f) h)

folder-in : (p : PackageData) (f : Folder) (x : FolderFindingData) → IsFoundIn p f x → Contains (folder_found p f) x
folder-in p f (NoFolder q) h = absurd h
folder-in p f (OtherArchive q g) h = named p f q g OtherArchive h.0 h.1
    (in-archive p f (OtherArchive p f) (archive-in p f h.2))
folder-in p f (Absent q g path) h = let (l, there, same, is) = h.2 in
    named p f q g (λ r e. Absent r e path) h.0 h.1 (subst (λ z. Contains (folder_found p f) (Absent p f z)) same
    (in-listed p f l (Absent p f l.path) there (absent-in p f l (ap (digest_at f.files) same ∙ is))))
folder-in p f (OtherFile q g path d listed) h = named p f q g (λ r e. OtherFile r e path d listed) h.0 h.1
    (in-listed p f (record { path = path; digest = listed }) (OtherFile p f path d listed) h.2
    (other-in p f (record { path = path; digest = listed }) d h.3 h.4))
folder-in p f (Unlisted q g path) h = let (l, there, same, is) = h.2 in
    named p f q g (λ r e. Unlisted r e path) h.0 h.1 (subst (λ z. Contains (folder_found p f) (Unlisted p f z)) same
    (in-files p f l (Unlisted p f l.path) there (unlisted-in p f l (ap (digest_at f.listed) same ∙ is))))
folder-in p f (Link q g path) h = named p f q g (λ r e. Link r e path) h.0 h.1 (in-links p f (Link p f path) (link-in p f path h.2))
folder-in p f (NoChecksum q) h = absurd h
folder-in p f (OfEntry path flaw) h = absurd h

some-folder : (p : PackageData) (fs : List Folder) (f : Folder) (x : FolderFindingData) → Contains fs f → Contains (folder_found p f) x
    → Contains (folders_found p fs) x
some-folder p [] f x there here = absurd (no-element f there)
some-folder p (g ∷ rest) f x there here = in-flat (folder_found p) (g ∷ rest) f x there here

checksum-in : (p : PackageData) → IsOfRegistryWithout p → Contains (checksum_found p) (NoChecksum p)
checksum-in p e = subst (λ (b : Bool). Contains (if b then NoChecksum p ∷ [] else []) (NoChecksum p)) (sym e) (first (NoChecksum p) [])

-- all that is found of a package with a source
abbrev all_found : VendoredData → List FolderFindingData
all_found v = checksum_found v.content ++ folders_found v.content v.folders

of-folders : (v : VendoredData) (x : FolderFindingData) → Contains (folders_found v.content v.folders) x → Contains (all_found v) x
of-folders v x = Contains-append_right (checksum_found v.content) (folders_found v.content v.folders) x

of-in : (v : VendoredData) (x : FolderFindingData) → IsFolderFindingOf v x → Contains (all_found v) x
of-in v (NoChecksum q) h = subst (λ p. Contains (all_found v) (NoChecksum p)) (sym h.0)
    (Contains-append_left (checksum_found v.content) (folders_found v.content v.folders) _ (checksum-in v.content h.1))
of-in v (OfEntry path flaw) h = let (f, there, so) = h in absurd so
of-in v (NoFolder q) h = of-folders v _ (subst (λ fs. Contains (folders_found v.content fs) (NoFolder q)) (sym h.1)
    (subst (λ p. Contains (NoFolder v.content ∷ []) (NoFolder p)) (sym h.0) (first (NoFolder v.content) [])))
of-in v (OtherArchive q g) h = let (f, there, so) = h in of-folders v _ (some-folder v.content v.folders f _ there (folder-in v.content f (OtherArchive q g) so))
of-in v (Absent q g path) h = let (f, there, so) = h in of-folders v _ (some-folder v.content v.folders f _ there (folder-in v.content f (Absent q g path) so))
of-in v (OtherFile q g path d l) h = let (f, there, so) = h in
    of-folders v _ (some-folder v.content v.folders f _ there (folder-in v.content f (OtherFile q g path d l) so))
of-in v (Unlisted q g path) h = let (f, there, so) = h in of-folders v _ (some-folder v.content v.folders f _ there (folder-in v.content f (Unlisted q g path) so))
of-in v (Link q g path) h = let (f, there, so) = h in of-folders v _ (some-folder v.content v.folders f _ there (folder-in v.content f (Link q g path) so))

vendored-in : (v : VendoredData) (x : FolderFindingData) → v.content.source ≢ None → Contains (all_found v) x
    → Contains (vendored_found v) x
vendored-in v x has h = by v.content.source refl
  where
    by : (o : Option Source) → v.content.source ≡ o → Contains (found_by_source v o) x
    by None is = absurd (has is)
    by (Some s) is = h

pub folder-findings-are-exact : FolderFindingsAreExact
folder-findings-are-exact all x = (
  All-contains (IsFoundAmong all) (folder_findings all) x (all-so all),
  λ h. let (v, there, has, so) = h in in-flat vendored_found all v x there (vendored-in v x has (of-in v x so)),
)

-- ---- nothing is found

-- nothing is found of a folder
abbrev IsQuiet : PackageData → Folder → Type 0
IsQuiet p f = (x : FolderFindingData) → ¬ IsFoundIn p f x

archive-is : (p : PackageData) (f : Folder) → IsQuiet p f → option_map digest_of f.archive ≡ p.checksum
archive-is p f quiet = by (is_same_archive p f) refl
  where
    by : (b : Bool) → is_same_archive p f ≡ b → option_map digest_of f.archive ≡ p.checksum
    by true e = same-if _ _ e
    by false e = absurd (quiet (OtherArchive p f) (refl, refl, λ same. true≢false (sym (if-same _ _ same) ∙ e)))

listed-is : (p : PackageData) (f : Folder) → IsQuiet p f → (l : ListedData) → Contains (files_of f.listed) l
    → digest_at f.files l.path ≡ Some l.digest
listed-is p f quiet l there = by (digest_at f.files l.path) refl
  where
    by : (o : Option (List ℕ)) → digest_at f.files l.path ≡ o → digest_at f.files l.path ≡ Some l.digest
    by None is = absurd (quiet (Absent p f l.path) (refl, refl, (l, there, refl, is)))
    by (Some d) is = either (bytes_eq d l.digest) refl
      where
        either : (b : Bool) → bytes_eq d l.digest ≡ b → digest_at f.files l.path ≡ Some l.digest
        either true e = is ∙ ap Some ((bytes_eq-Decides d l.digest).0 e)
        either false e = absurd (quiet (OtherFile p f l.path d l.digest)
            (refl, refl, there, is, λ same. true≢false (sym ((bytes_eq-Decides d l.digest).1 same) ∙ e)))

files-are : (p : PackageData) (f : Folder) → IsQuiet p f → (l : ListedData) → Contains (files_of f.files) l → IsSome (digest_at f.listed l.path)
files-are p f quiet l there = by (is_none (get_by_text f.listed l.path)) refl
  where
    by : (b : Bool) → is_none (get_by_text f.listed l.path) ≡ b → IsSome (digest_at f.listed l.path)
    by true e = absurd (quiet (Unlisted p f l.path) (refl, refl, (l, there, refl, absent-at f l.path e)))
    by false e = present-at f l.path e

links-are : (p : PackageData) (f : Folder) → IsQuiet p f → f.links.items ≡ []
links-are p f quiet = no-elements f.links.items
    (λ l there. quiet (Link p f (string_bytes l)) (refl, refl, in-map string_bytes f.links.items l there))

as-listed : (p : PackageData) (f : Folder) → IsQuiet p f → IsAsListed p f
as-listed p f quiet = record {
  archive = archive-is p f quiet;
  listed = listed-is p f quiet;
  files = files-are p f quiet;
  links = links-are p f quiet;
}

vendored-if-none : (all : List VendoredData) → folder_findings all ≡ [] → (v : VendoredData) → Contains all v → v.content.source ≢ None
    → IsVendored v × (¬ IsOfRegistryWithout v.content)
vendored-if-none all none v there has = (record { some = some; each = each }, λ h. nothing (NoChecksum v.content) (refl, h))
  where
    nothing : (x : FolderFindingData) → ¬ IsFolderFindingOf v x
    nothing x h = no-element x (subst (λ xs. Contains xs x) none ((folder-findings-are-exact all x).1 (v, there, has, h)))

    some : v.folders ≢ []
    some empty = nothing (NoFolder v.content) (refl, empty)

    each : (f : Folder) → Contains v.folders f → IsAsListed v.content f
    each f in-it = as-listed v.content f (λ x h. nothing x (of-folder v f in-it x h))

some-is-not-none : (o : Option (List ℕ)) → IsSome o → o ≢ None
some-is-not-none o some e = true≢false (sym some ∙ ap is_some e)

quiet-of : (p : PackageData) (f : Folder) → IsAsListed p f → IsQuiet p f
quiet-of p f is (NoFolder q) h = h
quiet-of p f is (OtherArchive q g) h = h.2 is.archive
quiet-of p f is (Absent q g path) h = let (l, there, same, none) = h.2 in
    true≢false (ap is_some (sym (is.listed l there) ∙ ap (digest_at f.files) same ∙ none))
quiet-of p f is (OtherFile q g path d listed) h =
    h.4 (same_Some d listed (sym h.3 ∙ is.listed (record { path = path; digest = listed }) h.2))
quiet-of p f is (Unlisted q g path) h = let (l, there, same, none) = h.2 in
    some-is-not-none (digest_at f.listed l.path) (is.files l there) (ap (digest_at f.listed) same ∙ none)
quiet-of p f is (Link q g path) h = no-element path (subst (λ ls. Contains (map string_bytes ls) path) is.links h.2)
quiet-of p f is (NoChecksum q) h = h
quiet-of p f is (OfEntry path flaw) h = h

none-of : (v : VendoredData) (x : FolderFindingData) → IsVendored v → (¬ IsOfRegistryWithout v.content) → ¬ IsFolderFindingOf v x
none-of v (NoFolder q) is checked h = is.some h.1
none-of v (OtherArchive q g) is checked h = let (f, there, so) = h in quiet-of v.content f (is.each f there) (OtherArchive q g) so
none-of v (Absent q g path) is checked h = let (f, there, so) = h in quiet-of v.content f (is.each f there) (Absent q g path) so
none-of v (OtherFile q g path d l) is checked h = let (f, there, so) = h in quiet-of v.content f (is.each f there) (OtherFile q g path d l) so
none-of v (Unlisted q g path) is checked h = let (f, there, so) = h in quiet-of v.content f (is.each f there) (Unlisted q g path) so
none-of v (Link q g path) is checked h = let (f, there, so) = h in quiet-of v.content f (is.each f there) (Link q g path) so
none-of v (NoChecksum q) is checked h = checked h.1
none-of v (OfEntry path flaw) is checked h = let (f, there, so) = h in so

pub none-if-vendored : NoneIfVendored
none-if-vendored all = (
  vendored-if-none all,
  λ is. no-elements (folder_findings all) (λ x h. let (v, there, has, so) = (folder-findings-are-exact all x).0 h in
      none-of v x (is v there has).0 (is v there has).1 so),
)

-- ---- classes

-- nothing is found of the folders of a package only if there are some, which are as their lists say
pub vendored-if-empty : (v : VendoredData) → folders_found v.content v.folders ≡ [] → IsVendored v
vendored-if-empty v none = record { some = some; each = each }
  where
    nothing : (x : FolderFindingData) → ¬ Contains (folders_found v.content v.folders) x
    nothing x h = no-element x (subst (λ xs. Contains xs x) none h)

    some : v.folders ≢ []
    some empty = nothing (NoFolder v.content) (subst (λ fs. Contains (folders_found v.content fs) (NoFolder v.content)) (sym empty)
        (first (NoFolder v.content) []))

    each : (f : Folder) → Contains v.folders f → IsAsListed v.content f
    each f in-it = as-listed v.content f (λ x h. nothing x (some-folder v.content v.folders f x in-it (folder-in v.content f x h)))

-- and then nothing is
pub empty-if-vendored : (v : VendoredData) → IsVendored v → (¬ IsOfRegistryWithout v.content) → folders_found v.content v.folders ≡ []
empty-if-vendored v is checked = no-elements (folders_found v.content v.folders)
    (λ x h. none-of v x is checked (All-contains (IsFolderFindingOf v) (folders_found v.content v.folders) x (folders-so v) h))
