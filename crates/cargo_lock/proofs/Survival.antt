-- A lockfile survives a format exactly where the table written in it reads back.
use Rattle.std.proofs.Common.{inl, inr, ◌≡◌, ℕ, Bool, true, false, List, [], ◌∷◌, map, Option, Some, None, IfSome, option_map, codes, refl, sym, subst, ◌∙◌, ap}
use Rattle.std.specs.FinMap.{empty, entries}
use Rattle.std.specs.List.{AllByRecursion}
use Rattle.std.proofs.lemmas.Option.{same_Some, none-some}
use Rattle.std.proofs.lemmas.Bool.{cases_Bool}
use Rattle.semver.specs.Identifiers.{parts_text}
use Rattle.toml.specs.Data.{Data, string, integer, Items}
use Rattle.toml.specs.View.{items_of}
use Rattle.cargo_lock_parts.specs.Identity.{Identity, IdentityKey, PackageData, PackageKey, identity_key, identity_of, package_key}
use Rattle.cargo_lock_parts.specs.SourceKey.{Key, key_of}
use Rattle.cargo_lock_references.specs.declared.version.ResolveVersion.{ResolveVersion}
use Rattle.cargo_lock_references.specs.declared.version.ResolveVersion.TheVariants.{V1, V2, V3, V4}
use Rattle.cargo_lock_references.specs.WrittenReference.{written_reference, in_full}
use Rattle.cargo_lock_references.specs.Format.{format_by_checksums, format_by, has_checksum}
use Rattle.cargo_lock_encoding.specs.Lockfiles.{format_of}
use Rattle.cargo_lock_encoding.specs.Meaning.{ResolvedData, all_packages, completed_lockfile, lockfile_of, meaning, package_of, resolved_values, root_package}
use Rattle.cargo_lock_encoding.specs.Means.{encoded_checksum, reading_list}
use Rattle.cargo_lock_references.specs.Metadata.{checksum_in, has_checksum_key, metadata_of}
use Rattle.cargo_lock_parts.specs.Optional.{◌>>=◌, map_all, map_some}
use Rattle.cargo_lock_encoding.specs.Lockfiles.{EncodedData, LockfileData, is_escaped_number}
use Rattle.cargo_lock_references.specs.Records.{EncodedPackage, Texts, encoded_identity, is_escaped}
use Rattle.cargo_lock_encoding.specs.Survives.{ChecksumSurvives, ListedSurvives, FormatSurvives, HasSamePackages, PatchSurvives, ReadsBack, RootSurvives, Survives, SurvivesExactly, in_format}
use Rattle.cargo_lock_references.specs.ReadBack.{DigestReadsBack}
use Rattle.cargo_lock_encoding.specs.Table.{checksum_value, encoded_of, encoded_table, encoded_package_of, package_table, encoded_package_value, metadata_value, unused_patch_value, patch_table, patch_value, encoded_root, table_of, written_checksum, written_version}
use Rattle.cargo_lock_lines.specs.TableOfWords.{present_members, text_members, unless_no_text}
use Rattle.toml_fields.specs.Fields.{number_in, optional_by, optional_list, read_all}
use Rattle.cargo_lock_encoding.specs.TableReading.{EncodedPackages, all_encoded_packages_at, checksum_from, encoded_at, encoded_packages_at, package_at_key, encoded_package_in, metadata_in, pairs_in, identity_at, unused_patch_in, patch_in, put_all, source_in}
use Rattle.cargo_lock_references.specs.Reference.{version_of}
use Rattle.cargo_lock_encoding.proofs.MeansLemmas.{Means-from, bind-parts, map-parts, meaning-from}
use Rattle.cargo_lock.proofs.PackageTables.{all-parts, all-made, cons-parts, digest-survives, identity_from, not-cons, package-parts, package-reads, package-survives, source-reads, source-survives, source_data, table-read}
use Rattle.cargo_lock.proofs.ResolutionKeys.{written_reference-of, in_full-of}
use Rattle.cargo_lock_encoding.proofs.PutAll.{put_all-entries}

-- ---- patches

patch-present_members : (s : Option Data) (n v : Data)
    → identity_at (present_members ((codes "name", Some n) ∷ (codes "source", s) ∷ (codes "version", Some v) ∷ [])) ≡ identity_from (Some n) s (Some v)
unfolding identity_at
patch-present_members None n v = refl
patch-present_members (Some s) n v = refl

patch-survives : (format : ResolveVersion) (i j : Identity) → identity_at (patch_table (is_escaped format) i) ≡ Some j → identity_key j ≡ identity_key i → PatchSurvives format i
patch-survives format i j h k =
    let e = sym (patch-present_members (source_data (is_escaped format) i.source) (string i.name) (string (parts_text i.version))) ∙ h in
    let a = bind-parts (version_of (parts_text i.version)) _ j e in
    let b = bind-parts (optional_by source_in (source_data (is_escaped format) i.source)) _ j a.2 in
    let made : ◌≡◌ {A = Identity} (record { name = i.name; version = a.0; source = b.0 }) j = same_Some _ _ b.2 in (
      a.1 ∙ ap (λ (x : Identity). Some x.version) made ∙ ap (λ (x : IdentityKey). Some x.version) k,
      source-survives (is_escaped format) i.source b.0 b.1 (ap (λ (x : Identity). option_map key_of x.source) made ∙ ap (λ (x : IdentityKey). x.source) k),
    )

patch-reads : (format : ResolveVersion) (i : Identity) → PatchSurvives format i → (j : Identity) × (identity_at (patch_table (is_escaped format) i) ≡ Some j) × (identity_key j ≡ identity_key i)
patch-reads format i h =
    let s = source-reads (is_escaped format) i.source h.1 in (
      record { name = i.name; version = i.version; source = s.0 },
      patch-present_members (source_data (is_escaped format) i.source) (string i.name) (string (parts_text i.version)) ∙ rw (h.0, s.1) refl,
      ap (λ (k : Option Key). record { name = i.name; version = i.version; source = k }) s.2,
    )

abbrev patch_items : ResolveVersion → List Identity → Items
patch_items format is = items_of (map (unused_patch_value (is_escaped format)) is)

patches-survive : (format : ResolveVersion) (is js : List Identity) → read_all unused_patch_in (patch_items format is) ≡ Some js → map identity_key js ≡ map identity_key is → AllByRecursion (PatchSurvives format) is
patches-survive format [] js r k = tt
patches-survive format (i ∷ is) js r k =
    let a = all-parts (identity_at (patch_table (is_escaped format) i)) (read_all unused_patch_in (patch_items format is)) js r in
    let keys = cons-parts (identity_key a.0) (identity_key i) (map identity_key a.1) (map identity_key is) (ap (map identity_key) (sym a.4) ∙ k) in
    (patch-survives format i a.0 a.2 keys.0, patches-survive format is a.1 a.3 keys.1)

patches-read : (format : ResolveVersion) (is : List Identity) → AllByRecursion (PatchSurvives format) is → (js : List Identity) × (read_all unused_patch_in (patch_items format is) ≡ Some js) × (map identity_key js ≡ map identity_key is)
patches-read format [] h = ([], refl, refl)
patches-read format (i ∷ is) h =
    let a = patch-reads format i h.0 in
    let b = patches-read format is h.1 in
    (a.0 ∷ b.0, all-made _ _ a.0 b.0 a.1 b.1, λ k. a.2 k ∷ b.2 k)

patch-value : (format : ResolveVersion) (is : List Identity) → patch_in (patch_value (is_escaped format) is) ≡ read_all unused_patch_in (patch_items format is)
patch-value format [] = refl
patch-value format (i ∷ is) = refl

-- the number that is written tells what the format does
escaped-number : (format : ResolveVersion) → is_escaped_number (written_version format) ≡ is_escaped format
escaped-number V1 = refl
escaped-number V2 = refl
escaped-number V3 = refl
escaped-number V4 = refl

-- ---- metadata

pairs-read : (ps : List (List ℕ × List ℕ)) → pairs_in (text_members ps) ≡ Some ps
pairs-read [] = refl
pairs-read (p ∷ ps) = rw (pairs-read ps) refl

pairs-in : (ps : List (List ℕ × List ℕ)) → metadata_in (unless_no_text ps) ≡ Some (put_all empty ps)
pairs-in [] = refl
pairs-in (p ∷ ps) = ap (option_map (put_all empty)) (pairs-read (p ∷ ps))

metadata-read : (m : Texts) → metadata_in (metadata_value m) ≡ Some m
metadata-read m = pairs-in (entries m) ∙ ap Some (put_all-entries m)

-- ---- packages

abbrev package_items : ResolveVersion → List Identity → List PackageData → Items
package_items format list ps = items_of (map encoded_package_value (map (encoded_package_of format list) ps))

-- equal lists are looked up alike
alike-lists : (format : ResolveVersion) (list other : List Identity) → map identity_key other ≡ map identity_key list → map identity_key (reading_list format other) ≡ map identity_key (reading_list format list)
alike-lists V1 list other e = refl
alike-lists V2 list other e = e
alike-lists V3 list other e = e
alike-lists V4 list other e = e

digest-back : (c d : Option (List ℕ)) → optional_by checksum_from (option_map checksum_value c) ≡ Some d → d ≡ c → IfSome c DigestReadsBack
digest-back c d e same = digest-survives c (e ∙ ap Some same)

checksum-survives : (format : ResolveVersion) (md : Texts) (p : PackageData) (e : EncodedPackage) → optional_by checksum_from (option_map checksum_value (written_checksum format p.checksum)) ≡ Some e.checksum
    → e.name ≡ p.name → e.version ≡ p.version → encoded_checksum format md e ≡ p.checksum → ChecksumSurvives format md p
checksum-survives V1 md p e r name version sum = sym (λ i. checksum_in md (name i) (version i)) ∙ sum
checksum-survives V2 md p e r name version sum = digest-back p.checksum e.checksum r sum
checksum-survives V3 md p e r name version sum = digest-back p.checksum e.checksum r sum
checksum-survives V4 md p e r name version sum = digest-back p.checksum e.checksum r sum

digest-kept : (format : ResolveVersion) (md : Texts) (p : PackageData) → ChecksumSurvives format md p → IfSome (written_checksum format p.checksum) DigestReadsBack
digest-kept V1 md p h = tt
digest-kept V2 md p h = h
digest-kept V3 md p h = h
digest-kept V4 md p h = h

checksum-kept : (format : ResolveVersion) (md : Texts) (p : PackageData) (e : EncodedPackage) → ChecksumSurvives format md p
    → e.checksum ≡ written_checksum format p.checksum → e.name ≡ p.name → e.version ≡ p.version → encoded_checksum format md e ≡ p.checksum
checksum-kept V1 md p e h own name version = (λ i. checksum_in md (name i) (version i)) ∙ h
checksum-kept V2 md p e h own name version = own
checksum-kept V3 md p e h own name version = own
checksum-kept V4 md p e h own name version = own

-- what the entries mean, where references are looked up in this list
abbrev meant : ResolveVersion → Texts → List Identity → List EncodedPackage → Option (List PackageData)
meant format md other es = map_all (λ e. package_of (reading_list format other) (encoded_checksum format md e) e) es

entry-survives : (format : ResolveVersion) (list other : List Identity) (md : Texts) → map identity_key other ≡ map identity_key list
    → (p q : PackageData) (e : EncodedPackage) → package_at_key (package_table (encoded_package_of format list p)) ≡ Some e → package_of (reading_list format other) (encoded_checksum format md e) e ≡ Some q
    → package_key q ≡ package_key p → ListedSurvives format list md p
entry-survives format list other md same p q e r m k =
    let i = table-read format (written_checksum format p.checksum) (written_reference format list) p e r in
    let made = package-parts (reading_list format other) (encoded_checksum format md e) e q m in (
      package-survives format (written_checksum format p.checksum) (written_reference format list) (reading_list format list) (reading_list format other) (encoded_checksum format md e) p q e
          (written_reference-of format list) (alike-lists format list other same) i made k,
      checksum-survives format md p e i.checksum (made.name ∙ ap (λ (x : PackageKey). x.identity.name) k) (made.version ∙ ap (λ (x : PackageKey). x.identity.version) k)
          (made.checksum_is ∙ ap (λ (x : PackageKey). x.checksum) k),
    )

entries-survive : (format : ResolveVersion) (list other : List Identity) (md : Texts) → map identity_key other ≡ map identity_key list
    → (ps : List PackageData) (es : List EncodedPackage) (qs : List PackageData) → read_all encoded_package_in (package_items format list ps) ≡ Some es → meant format md other es ≡ Some qs
    → map package_key qs ≡ map package_key ps → AllByRecursion (ListedSurvives format list md) ps
entries-survive format list other md same [] es qs r m k = tt
entries-survive format list other md same (p ∷ ps) es qs r m k =
    let a = all-parts (package_at_key (package_table (encoded_package_of format list p))) (read_all encoded_package_in (package_items format list ps)) es r in
    let b = all-parts (package_of (reading_list format other) (encoded_checksum format md a.0) a.0) (meant format md other a.1) qs (ap (meant format md other) (sym a.4) ∙ m) in
    let keys = cons-parts (package_key b.0) (package_key p) (map package_key b.1) (map package_key ps) (ap (map package_key) (sym b.4) ∙ k) in
    (entry-survives format list other md same p b.0 a.0 a.2 b.2 keys.0, entries-survive format list other md same ps a.1 b.1 a.3 b.3 keys.1)

-- the identities of the entries are those of the packages
meant-identities : (f : EncodedPackage → List Identity) (sum : EncodedPackage → Option (List ℕ)) (es : List EncodedPackage) (qs ps : List PackageData) → map_all (λ e. package_of (f e) (sum e) e) es ≡ Some qs
    → map package_key qs ≡ map package_key ps → map identity_key (map encoded_identity es) ≡ map identity_key (map identity_of ps)
meant-identities f sum [] qs ps m k = by qs ps (same_Some _ _ m) k
  where
    by : (qs ps : List PackageData) → [] ≡ qs → map package_key qs ≡ map package_key ps → ◌≡◌ {A = List IdentityKey} [] (map identity_key (map identity_of ps))
    by [] [] e k = refl
    by [] (p ∷ ps) e k = absurd (not-cons _ _ k)
    by (q ∷ qs) ps e k = absurd (not-cons q qs e)
meant-identities f sum (e ∷ es) qs [] m k =
    let b = all-parts (package_of (f e) (sum e) e) (map_all (λ e. package_of (f e) (sum e) e) es) qs m in
    absurd (not-cons (package_key b.0) (map package_key b.1) (sym (ap (map package_key) (sym b.4) ∙ k)))
meant-identities f sum (e ∷ es) qs (p ∷ ps) m k =
    let b = all-parts (package_of (f e) (sum e) e) (map_all (λ e. package_of (f e) (sum e) e) es) qs m in
    let keys = cons-parts (package_key b.0) (package_key p) (map package_key b.1) (map package_key ps) (ap (map package_key) (sym b.4) ∙ k) in
    let made = package-parts (f e) (sum e) e b.0 b.2 in
    let head : identity_key (encoded_identity e) ≡ identity_key (identity_of p) =
    (λ i. record { name = made.name i; version = made.version i; source = option_map key_of (made.source i) }) ∙ ap (λ (x : PackageKey). x.identity) keys.0 in
    let tail = meant-identities f sum es b.1 ps b.3 keys.1 in
    λ i. head i ∷ tail i

-- only V1 looks at the checksums of entries
abbrev NoneInFirst : ResolveVersion → List EncodedPackage → Type 0
NoneInFirst V1 es = has_checksum es ≡ false
NoneInFirst V2 es = Unit {0}
NoneInFirst V3 es = Unit {0}
NoneInFirst V4 es = Unit {0}

none-more : (format : ResolveVersion) (e : EncodedPackage) (c : Option (List ℕ)) (es : List EncodedPackage) → e.checksum ≡ written_checksum format c → NoneInFirst format es → NoneInFirst format (e ∷ es)
none-more V1 e c es own h = rw (own, h) refl
none-more V2 e c es own h = tt
none-more V3 e c es own h = tt
none-more V4 e c es own h = tt

none-yet : (format : ResolveVersion) → NoneInFirst format []
none-yet V1 = refl
none-yet V2 = tt
none-yet V3 = tt
none-yet V4 = tt

-- what packages that survive are read as
record PackagesRead (format : ResolveVersion) (list : List Identity) (md : Texts) (ps : List PackageData) : Type 0 where
  entries : List EncodedPackage
  read : read_all encoded_package_in (package_items format list ps) ≡ Some entries
  identities : map identity_key (map encoded_identity entries) ≡ map identity_key (map identity_of ps)
  none : NoneInFirst format entries
  means : (other : List Identity) → map identity_key other ≡ map identity_key list → (qs : List PackageData) × (meant format md other entries ≡ Some qs) × (map package_key qs ≡ map package_key ps)

entries-read : (format : ResolveVersion) (list : List Identity) (md : Texts) (ps : List PackageData) → AllByRecursion (ListedSurvives format list md) ps → PackagesRead format list md ps
entries-read format list md [] h = record { entries = []; read = refl; identities = refl; none = none-yet format; means = λ other same. ([], refl, refl) }
entries-read format list md (p ∷ ps) h =
    let a = package-reads format (written_checksum format p.checksum) (written_reference format list) (reading_list format list) p (written_reference-of format list) (digest-kept format md p h.0.1) h.0.0 in
    let b = entries-read format list md ps h.1 in
    record {
      entries = a.entry ∷ b.entries;
      read = all-made (package_at_key (package_table (encoded_package_of format list p))) (read_all encoded_package_in (package_items format list ps)) a.entry b.entries a.read b.read;
      identities = λ i. a.key_is i ∷ b.identities i;
      none = none-more format a.entry p.checksum b.entries a.checksum_is b.none;
      means = λ other same.
          let one = a.means (reading_list format other) (encoded_checksum format md a.entry) (alike-lists format list other same) (checksum-kept format md p a.entry h.0.1 a.checksum_is a.name_is a.version_is) in
          let more = b.means other same in (
            one.0 ∷ more.0,
            all-made (package_of (reading_list format other) (encoded_checksum format md a.entry) a.entry) (meant format md other b.entries) one.0 more.0 one.1 more.1,
            λ i. one.2 i ∷ more.2 i,
          );
    }

-- ---- the root

abbrev root_data : ResolveVersion → Option PackageData → Option Data
root_data format o = option_map encoded_package_value (option_map (encoded_root format) o)

root-survives : (format : ResolveVersion) (o : Option PackageData) (base : Option EncodedPackage) (r : Option PackageData) → optional_by encoded_package_in (root_data format o) ≡ Some base → map_some root_package base ≡ Some r
    → option_map package_key r ≡ option_map package_key o → IfSome o (RootSurvives format)
root-survives format None base r e m k = tt
root-survives format (Some p) base r e m k =
    let a = map-parts Some (package_at_key (package_table (encoded_root format p))) base e in
    let f : option_map Some (package_of [] a.0.checksum a.0) ≡ Some r = ap (map_some root_package) a.2 ∙ m in
    let b = map-parts Some (package_of [] a.0.checksum a.0) r f in
    let key : package_key b.0 ≡ package_key p = same_Some _ _ (ap (option_map package_key) b.2 ∙ k) in
    let i = table-read format p.checksum (in_full (is_escaped format)) p a.0 a.1 in
    let made = package-parts [] a.0.checksum a.0 b.0 b.1 in (
      package-survives format p.checksum (in_full (is_escaped format)) [] [] a.0.checksum p b.0 a.0 (in_full-of (is_escaped format)) refl i made key,
      digest-back p.checksum a.0.checksum i.checksum (made.checksum_is ∙ ap (λ (x : PackageKey). x.checksum) key),
    )

root-reads : (format : ResolveVersion) (o : Option PackageData) → IfSome o (RootSurvives format)
    → (base : Option EncodedPackage) × (r : Option PackageData) × (optional_by encoded_package_in (root_data format o) ≡ Some base) × (map_some root_package base ≡ Some r) × (option_map package_key r ≡ option_map package_key o)
root-reads format None h = (None, None, refl, refl, refl)
root-reads format (Some p) h =
    let a = package-reads format p.checksum (in_full (is_escaped format)) [] p (in_full-of (is_escaped format)) h.1 h.0 in
    let b = a.means [] a.entry.checksum refl a.checksum_is in
    (Some a.entry, Some b.0, ap (option_map Some) a.read, ap (option_map Some) b.1, ap Some b.2)

-- ---- the format

number-read : (format : ResolveVersion) → optional_by number_in (option_map integer (written_version format)) ≡ Some (written_version format)
number-read V1 = refl
number-read V2 = refl
number-read V3 = refl
number-read V4 = refl

format-survives : (format : ResolveVersion) (es : List EncodedPackage) (md : Texts) → format_by (written_version format) es md ≡ Some format → FormatSurvives format md
format-survives V1 es md e = elim (cases_Bool (has_checksum_key md)) [
  | inl some ↦ some
  | inr none ↦ absurd (let f : Some V2 ≡ Some V1 = rw none at e in cc)
]
format-survives V2 es md e = elim (cases_Bool (has_checksum_key md)) [
  | inl some ↦ absurd (other (has_checksum es) (rw some at e))
  | inr none ↦ none
]
  where
    other : (b : Bool) → format_by_checksums true b ≡ Some V2 → ⊥
    other true e = none-some V2 e
    other false e = cc
format-survives V3 es md e = tt
format-survives V4 es md e = tt

format-read : (format : ResolveVersion) (es : List EncodedPackage) (md : Texts) → NoneInFirst format es → FormatSurvives format md → format_by (written_version format) es md ≡ Some format
format-read V1 es md none h = rw (h, none) refl
format-read V2 es md none h = rw h refl
format-read V3 es md none h = refl
format-read V4 es md none h = refl

-- ---- the values of a written table

abbrev pub encoded_packages_from : Option Items → Option Data → Option EncodedPackages
encoded_packages_from items root = do
  es ← (do
    list ← items
    read_all encoded_package_in list)
  base ← optional_by encoded_package_in root
  Some (record { listed = es; root = base })

abbrev pub values_from : Option Data → Option Items → Option Data → Option Data → Option Data → Option EncodedData
values_from metadata items patch root version = do
  number ← optional_by number_in version
  all ← encoded_packages_from items root
  md ← metadata_in metadata
  unused ← patch_in patch
  Some (record { version = number; packages = all.listed; root = all.root; metadata = md; patch = unused })

values-present_members : (m : Option Data) (k : Data) (p r v : Option Data)
    → encoded_at (present_members ((codes "metadata", m) ∷ (codes "package", Some k) ∷ (codes "patch", p) ∷ (codes "root", r) ∷ (codes "version", v) ∷ [])) ≡ values_from m (optional_list (Some k)) p r v
unfolding encoded_at all_encoded_packages_at encoded_packages_at
values-present_members None k None None None = refl
values-present_members None k None None (Some v) = refl
values-present_members None k None (Some r) None = refl
values-present_members None k None (Some r) (Some v) = refl
values-present_members None k (Some p) None None = refl
values-present_members None k (Some p) None (Some v) = refl
values-present_members None k (Some p) (Some r) None = refl
values-present_members None k (Some p) (Some r) (Some v) = refl
values-present_members (Some m) k None None None = refl
values-present_members (Some m) k None None (Some v) = refl
values-present_members (Some m) k None (Some r) None = refl
values-present_members (Some m) k None (Some r) (Some v) = refl
values-present_members (Some m) k (Some p) None None = refl
values-present_members (Some m) k (Some p) None (Some v) = refl
values-present_members (Some m) k (Some p) (Some r) None = refl
values-present_members (Some m) k (Some p) (Some r) (Some v) = refl

abbrev identities : LockfileData → List Identity
identities l = map identity_of l.packages

abbrev written_metadata : ResolveVersion → LockfileData → Texts
written_metadata format l = metadata_of format l.metadata l.packages

-- what the parts of the table are read as
abbrev values : ResolveVersion → LockfileData → Option EncodedData
values format l = values_from (metadata_value (written_metadata format l)) (Some (package_items format (identities l) l.packages))
    (patch_value (is_escaped format) l.patch) (root_data format l.root) (option_map integer (written_version format))

pub table-values : (format : ResolveVersion) (l : LockfileData) → encoded_at (table_of (in_format format l)) ≡ values format l
unfolding encoded_table encoded_of
table-values format l =
    values-present_members _ _ _ _ _
    ∙ ap (λ (b : Bool). values_from (metadata_value (written_metadata format l)) (Some (package_items format (identities l) l.packages))
    (patch_value b l.patch) (root_data format l.root) (option_map integer (written_version format))) (escaped-number format)

-- what the values were read from
record AreValues (format : ResolveVersion) (l : LockfileData) (e : EncodedData) : Type 0 where
  number : e.version ≡ written_version format
  listed : read_all encoded_package_in (package_items format (identities l) l.packages) ≡ Some e.packages
  base : optional_by encoded_package_in (root_data format l.root) ≡ Some e.root
  metadata : e.metadata ≡ written_metadata format l
  patch : read_all unused_patch_in (patch_items format l.patch) ≡ Some e.patch

value-parts : (format : ResolveVersion) (l : LockfileData) (e : EncodedData) → values format l ≡ Some e → AreValues format l e
value-parts format l e h =
    let n = bind-parts (optional_by number_in (option_map integer (written_version format))) _ e h in
    let all = bind-parts (encoded_packages_from (Some (package_items format (identities l) l.packages)) (root_data format l.root)) _ e n.2 in
    let m = bind-parts (metadata_in (metadata_value (written_metadata format l))) _ e all.2 in
    let p = bind-parts (patch_in (patch_value (is_escaped format) l.patch)) _ e m.2 in
    let es = bind-parts (read_all encoded_package_in (package_items format (identities l) l.packages)) _ all.0 all.1 in
    let r = bind-parts (optional_by encoded_package_in (root_data format l.root)) _ all.0 es.2 in
    let both : ◌≡◌ {A = EncodedPackages} (record { listed = es.0; root = r.0 }) all.0 = same_Some _ _ r.2 in
    let made : ◌≡◌ {A = EncodedData} (record { version = n.0; packages = all.0.listed; root = all.0.root; metadata = m.0; patch = p.0 }) e = same_Some _ _ p.2 in
    record {
      number = sym (ap (λ (x : EncodedData). x.version) made) ∙ same_Some _ _ (sym n.1 ∙ number-read format);
      listed = es.1 ∙ ap (λ (x : EncodedPackages). Some x.listed) both ∙ ap (λ (x : EncodedData). Some x.packages) made;
      base = r.1 ∙ ap (λ (x : EncodedPackages). Some x.root) both ∙ ap (λ (x : EncodedData). Some x.root) made;
      metadata = sym (ap (λ (x : EncodedData). x.metadata) made) ∙ same_Some _ _ (sym m.1 ∙ metadata-read (written_metadata format l));
      patch = sym (patch-value format l.patch) ∙ p.1 ∙ ap (λ (x : EncodedData). Some x.patch) made;
    }

-- ---- lockfiles

record AreLocked (e : EncodedData) (x : LockfileData) : Type 0 where
  format : format_of e ≡ Some x.version
  packages : all_packages x.version e.metadata e.packages ≡ Some x.packages
  root : map_some root_package e.root ≡ Some x.root
  patch : e.patch ≡ x.patch

lockfile_of-parts : (e : EncodedData) (x : LockfileData) → lockfile_of e ≡ Some x → AreLocked e x
unfolding lockfile_of
lockfile_of-parts e x h =
    let w = map-parts (completed_lockfile e) (resolved_values e) x h in
    let v = bind-parts (format_of e) _ w.0 w.1 in
    let ps = bind-parts (all_packages v.0 e.metadata e.packages) _ w.0 v.2 in
    let r = bind-parts (map_some root_package e.root) _ w.0 ps.2 in
    let found : ◌≡◌ {A = ResolvedData} (record { version = v.0; packages = ps.0; root = r.0 }) w.0 = same_Some _ _ r.2 in
    let made : ◌≡◌ {A = LockfileData} (completed_lockfile e (record { version = v.0; packages = ps.0; root = r.0 })) x = ap (completed_lockfile e) found ∙ w.2 in
    let version : v.0 ≡ x.version = ap (λ (y : LockfileData). y.version) made in
    record {
      format = v.1 ∙ ap Some version;
      packages = sym (λ i. all_packages (version i) e.metadata e.packages) ∙ ps.1 ∙ ap (λ (y : LockfileData). Some y.packages) made;
      root = r.1 ∙ ap (λ (y : LockfileData). Some y.root) made;
      patch = ap (λ (y : LockfileData). y.patch) made;
    }

-- what a lockfile that survives is read as
pub record IsRead (l : LockfileData) (format : ResolveVersion) : Type 0 where
  pub read : LockfileData
  pub means : meaning (table_of (in_format format l)) ≡ Some read
  pub version : read.version ≡ format
  pub same : HasSamePackages read l
  pub metadata : read.metadata ≡ metadata_of format l.metadata l.packages

pub reading : (l : LockfileData) (format : ResolveVersion) → Survives l format → IsRead l format
unfolding lockfile_of
reading l format h =
    let md = written_metadata format l in
    let es = entries-read format (identities l) md l.packages h.packages in
    let qs = es.means (map encoded_identity es.entries) es.identities in
    let root = root-reads format l.root h.root in
    let patch = patches-read format l.patch h.patch in
    let e : EncodedData = record { version = written_version format; packages = es.entries; root = root.0; metadata = md; patch = patch.0 } in
    let x : LockfileData = record { version = format; packages = qs.0; root = root.1; metadata = md; patch = patch.0 } in
    let read : values format l ≡ Some e = rw (number-read format, es.read, root.2, metadata-read md, patch-value format l.patch, patch.1) refl in
    let found : lockfile_of e ≡ Some x = rw (format-read format es.entries md es.none h.told, qs.1, root.3) refl in
    record {
      read = x;
      means = ap (λ (o : Option EncodedData). o >>= lockfile_of) (table-values format l ∙ read) ∙ found;
      version = refl;
      same = record { packages = qs.2; root = root.4; patch = patch.2 };
      metadata = refl;
    }

reads-back : (l : LockfileData) (format : ResolveVersion) → Survives l format → ReadsBack l format
reads-back l format h =
    let r = reading l format h in
    (r.read, Means-from (table_of (in_format format l)) r.read r.means, r.version, r.same)

survives-from : (l x : LockfileData) (format : ResolveVersion) → meaning (table_of (in_format format l)) ≡ Some x → x.version ≡ format → HasSamePackages x l → Survives l format
survives-from l x format h told same =
    let md = written_metadata format l in
    let b = bind-parts (encoded_at (table_of (in_format format l))) lockfile_of x h in
    let e = b.0 in
    let v = value-parts format l e (sym (table-values format l) ∙ b.1) in
    let k = lockfile_of-parts e x b.2 in
    let found : all_packages format md e.packages ≡ Some x.packages = sym (λ i. all_packages (told i) (v.metadata i) e.packages) ∙ k.packages in
    let ids = meant-identities (λ y. reading_list format (map encoded_identity e.packages)) (encoded_checksum format md) e.packages x.packages l.packages found same.packages in
    let shown : format_by (written_version format) e.packages md ≡ Some format = sym (λ i. format_by (v.number i) e.packages (v.metadata i)) ∙ k.format ∙ ap Some told in
    record {
      packages = entries-survive format (identities l) (map encoded_identity e.packages) md ids l.packages e.packages x.packages v.listed found same.packages;
      root = root-survives format l.root e.root x.root v.base k.root same.root;
      patch = patches-survive format l.patch e.patch v.patch (ap (map identity_key) k.patch ∙ same.patch);
      told = format-survives format e.packages md shown;
    }

pub survives-exactly : SurvivesExactly
survives-exactly l format = (reads-back l format, λ h. survives-from l h.0 format (meaning-from (table_of (in_format format l)) h.0 h.1) h.2 h.3)

-- what a table of a lockfile that survives means: the format, equal packages, and the written metadata
pub record IsKept (l : LockfileData) (format : ResolveVersion) (x : LockfileData) : Type 0 where
  pub version : x.version ≡ format
  pub same : HasSamePackages x l
  pub metadata : x.metadata ≡ metadata_of format l.metadata l.packages

pub step-keeps : (l x : LockfileData) (format : ResolveVersion) → Survives l format → meaning (table_of (in_format format l)) ≡ Some x → IsKept l format x
step-keeps l x format h e =
    let r = reading l format h in
    let one : r.read ≡ x = same_Some _ _ (sym r.means ∙ e) in
    subst (IsKept l format) one (record { version = r.version; same = r.same; metadata = r.metadata })
