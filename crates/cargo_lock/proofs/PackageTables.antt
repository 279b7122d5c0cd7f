-- What the written table of a package reads as.
use Rattle.std.proofs.Common.{◌≡◌, ℕ, Bool, true, false, List, [], ◌∷◌, map, Option, Some, None, IfSome, option_map, codes, refl, sym, ◌∙◌, ap, true≢false}
use Rattle.std.specs.List.{AllByRecursion}
use Rattle.std.proofs.lemmas.Option.{same_Some, none-some}
use Rattle.semver.specs.Parse.{Parts}
use Rattle.semver.specs.Identifiers.{parts_text}
use Rattle.toml.specs.Data.{Data, string, Items}
use Rattle.toml.specs.View.{items_of}
use Rattle.cargo_lock_parts.specs.Checksum.{digest_in, digest_text}
use Rattle.cargo_lock_parts.specs.Identity.{Identity, PackageData, PackageKey, identity_key, identity_of, package_key}
use Rattle.cargo_lock_parts.specs.Source.{Source, is_path}
use Rattle.cargo_lock_parts.specs.SourceKey.{Key, key_of}
use Rattle.cargo_lock_parts.specs.SourceReading.{source_of}
use Rattle.cargo_lock_parts.specs.SourceText.{marked_text}
use Rattle.cargo_lock_references.specs.declared.version.ResolveVersion.{ResolveVersion}
use Rattle.cargo_lock_references.specs.WrittenReference.{in_full, mark, unless_path, written_source}
use Rattle.cargo_lock_references.specs.Reference.{Reference, reference_of, reference_text, mark_plain}
use Rattle.cargo_lock_encoding.specs.Meaning.{package_of}
use Rattle.cargo_lock_parts.specs.Optional.{◌>>=◌, map_all, map_some}
use Rattle.cargo_lock_references.specs.Records.{EncodedPackage, unmarked_source, encoded_identity, is_escaped}
use Rattle.cargo_lock_references.specs.ResolutionSearch.{resolution_of}
use Rattle.cargo_lock_references.specs.ReadBack.{DigestReadsBack, ReferenceSurvives, SourceSurvives, SourceTextReadsBack}
use Rattle.cargo_lock_encoding.specs.Survives.{PackageSurvives}
use Rattle.cargo_lock_encoding.specs.Table.{checksum_value, package_table, encoded_package_with, reference_value, source_value}
use Rattle.cargo_lock_lines.specs.TableOfWords.{present_members, unless_empty}
use Rattle.toml_fields.specs.Fields.{optional_by, optional_list, read_all, required_text}
use Rattle.cargo_lock_encoding.specs.TableReading.{checksum_from, identity_at, package_at_key, reference_in, source_in}
use Rattle.cargo_lock_references.specs.Reference.{version_of}
use Rattle.cargo_lock_encoding.proofs.MeansLemmas.{bare-mark_plain, bind-parts, map-parts}
use Rattle.cargo_lock.proofs.ResolutionKeys.{IsOf, in_full-of, reference-survives, reference-reads}

pub cons-parts : {A : Type 0} (x y : A) (xs ys : List A) → x ∷ xs ≡ y ∷ ys → (x ≡ y) × (xs ≡ ys)
cons-parts x y xs ys e = (cc, cc)

pub not-cons : {A : Type 0} (x : A) (xs : List A) → [] ≡ x ∷ xs → ⊥
not-cons x xs e = cc

abbrev pub identity_from : Option Data → Option Data → Option Data → Option Identity
identity_from name source version = do
  n ← required_text name
  text ← required_text version
  v ← version_of text
  s ← optional_by source_in source
  Some (record { name = n; version = v; source = s })

abbrev encoded_package_from : Option Data → Option Data → Option Data → Option Data → Option Data → Option Data → Option EncodedPackage
encoded_package_from checksum dependencies name replace source version = do
  i ← identity_from name source version
  c ← optional_by checksum_from checksum
  list ← optional_list dependencies
  fs ← read_all reference_in list
  r ← optional_by reference_in replace
  Some (record { name = i.name; version = i.version; source = option_map mark_plain i.source; checksum = c; dependencies = fs; replace = r })

-- ---- the table of a package, and its parts

pub entry-present_members : (c d r s : Option Data) (n v : Data)
    → package_at_key (present_members ((codes "checksum", c) ∷ (codes "dependencies", d) ∷ (codes "name", Some n) ∷ (codes "replace", r) ∷ (codes "source", s) ∷ (codes "version", Some v) ∷ [])) ≡ encoded_package_from c d (Some n) r s (Some v)
unfolding package_at_key identity_at
entry-present_members None None None None n v = refl
entry-present_members None None None (Some s) n v = refl
entry-present_members None None (Some r) None n v = refl
entry-present_members None None (Some r) (Some s) n v = refl
entry-present_members None (Some d) None None n v = refl
entry-present_members None (Some d) None (Some s) n v = refl
entry-present_members None (Some d) (Some r) None n v = refl
entry-present_members None (Some d) (Some r) (Some s) n v = refl
entry-present_members (Some c) None None None n v = refl
entry-present_members (Some c) None None (Some s) n v = refl
entry-present_members (Some c) None (Some r) None n v = refl
entry-present_members (Some c) None (Some r) (Some s) n v = refl
entry-present_members (Some c) (Some d) None None n v = refl
entry-present_members (Some c) (Some d) None (Some s) n v = refl
entry-present_members (Some c) (Some d) (Some r) None n v = refl
entry-present_members (Some c) (Some d) (Some r) (Some s) n v = refl

-- what each part of an entry was read from
pub record IsRead (c d r s : Option Data) (n : List ℕ) (v : Parts) (e : EncodedPackage) : Type 0 where
  pub name : n ≡ e.name
  pub version : version_of (parts_text v) ≡ Some e.version
  pub bare : Option Source
  pub source : optional_by source_in s ≡ Some bare
  pub marked_plain : option_map mark_plain bare ≡ e.source
  pub checksum : optional_by checksum_from c ≡ Some e.checksum
  pub items : Items
  pub listed : optional_list d ≡ Some items
  pub dependencies : read_all reference_in items ≡ Some e.dependencies
  pub replace : optional_by reference_in r ≡ Some e.replace

read-parts : (c d r s : Option Data) (n : List ℕ) (v : Parts) (e : EncodedPackage) → encoded_package_from c d (Some (string n)) r s (Some (string (parts_text v))) ≡ Some e → IsRead c d r s n v e
read-parts c d r s n v e h =
    let o = bind-parts (identity_from (Some (string n)) s (Some (string (parts_text v)))) _ e h in
    let a = bind-parts (version_of (parts_text v)) _ o.0 o.1 in
    let b = bind-parts (optional_by source_in s) _ o.0 a.2 in
    let own : ◌≡◌ {A = Identity} (record { name = n; version = a.0; source = b.0 }) o.0 = same_Some _ _ b.2 in
    let g = bind-parts (optional_by checksum_from c) _ e o.2 in
    let items = bind-parts (optional_list d) _ e g.2 in
    let k = bind-parts (read_all reference_in items.0) _ e items.2 in
    let l = bind-parts (optional_by reference_in r) _ e k.2 in
    let made : ◌≡◌ {A = EncodedPackage} (record { name = o.0.name; version = o.0.version; source = option_map mark_plain o.0.source; checksum = g.0; dependencies = k.0; replace = l.0 }) e = same_Some _ _ l.2 in
    record {
      name = ap (λ (x : Identity). x.name) own ∙ ap (λ (x : EncodedPackage). x.name) made;
      version = a.1 ∙ ap (λ (x : Identity). Some x.version) own ∙ ap (λ (x : EncodedPackage). Some x.version) made;
      bare = b.0;
      source = b.1;
      marked_plain = ap (λ (x : Identity). option_map mark_plain x.source) own ∙ ap (λ (x : EncodedPackage). x.source) made;
      checksum = g.1 ∙ ap (λ (x : EncodedPackage). Some x.checksum) made;
      items = items.0;
      listed = items.1;
      dependencies = k.1 ∙ ap (λ (x : EncodedPackage). Some x.dependencies) made;
      replace = l.1 ∙ ap (λ (x : EncodedPackage). Some x.replace) made;
    }

parts-read : (c d r s : Option Data) (n : List ℕ) (v : Parts) (e : EncodedPackage) → IsRead c d r s n v e → encoded_package_from c d (Some (string n)) r s (Some (string (parts_text v))) ≡ Some e
parts-read c d r s n v e h = rw (h.version, h.source, h.checksum, h.listed, h.dependencies, h.replace, h.name, h.marked_plain) refl

-- ---- sources

abbrev pub source_data : Bool → Option Source → Option Data
source_data escaped s = option_map source_value (written_source escaped s)

by_path : (escaped path : Bool) (s : Source) (r : Option Source)
    → optional_by source_in (option_map source_value (option_map (mark escaped) (unless_path path s))) ≡ Some r → option_map key_of r ≡ Some (key_of s)
    → (path ≡ false) × SourceTextReadsBack (mark escaped s)
by_path escaped true s r e k = let g : None ≡ r = same_Some _ _ e in absurd (none-some (key_of s) (ap (option_map key_of) g ∙ k))
by_path escaped false s r e k =
    let p = map-parts Some (source_of (marked_text (mark escaped s))) r e in
    (refl, ap (option_map key_of) (p.1 ∙ p.2) ∙ k)

pub source-survives : (escaped : Bool) (s r : Option Source) → optional_by source_in (source_data escaped s) ≡ Some r → option_map key_of r ≡ option_map key_of s → IfSome s (SourceSurvives escaped)
source-survives escaped None r e k = tt
source-survives escaped (Some s) r e k = by_path escaped (is_path s.kind) s r e k

path-read : (escaped path : Bool) (s r : Source) → path ≡ false → source_of (marked_text (mark escaped s)) ≡ Some r
    → optional_by source_in (option_map source_value (option_map (mark escaped) (unless_path path s))) ≡ Some (Some r)
path-read escaped true s r other e = absurd (true≢false other)
path-read escaped false s r other e = ap (option_map Some) e

pub source-reads : (escaped : Bool) (s : Option Source) → IfSome s (SourceSurvives escaped) → (r : Option Source) × (optional_by source_in (source_data escaped s) ≡ Some r) × (option_map key_of r ≡ option_map key_of s)
source-reads escaped None h = (None, refl, refl)
source-reads escaped (Some s) h = let p = map-parts key_of (source_of (marked_text (mark escaped s))) (key_of s) h.1 in
    (Some p.0, path-read escaped (is_path s.kind) s p.0 h.0 p.1, ap Some p.2)

-- ---- checksums

pub digest-survives : (c : Option (List ℕ)) → optional_by checksum_from (option_map checksum_value c) ≡ Some c → IfSome c DigestReadsBack
digest-survives None e = tt
digest-survives (Some d) e = let p = map-parts Some (digest_in (digest_text d)) (Some d) e in p.1 ∙ p.2

pub digest-reads : (c : Option (List ℕ)) → IfSome c DigestReadsBack → optional_by checksum_from (option_map checksum_value c) ≡ Some c
digest-reads None h = refl
digest-reads (Some d) h = rw h refl

-- ---- dependencies

pub list-read : (ds : List Data) → optional_list (unless_empty ds) ≡ Some (items_of ds)
list-read [] = refl
list-read (d ∷ ds) = refl

-- the two parts of a list that is made one by one
pub all-parts : {X : Type 0} (o : Option X) (p : Option (List X)) (zs : List X) → (o >>= λ y. option_map (λ ys. y ∷ ys) p) ≡ Some zs → (y : X) × (ys : List X) × (o ≡ Some y) × (p ≡ Some ys) × (zs ≡ y ∷ ys)
all-parts o p zs e =
    let a = bind-parts o (λ y. option_map (λ ys. y ∷ ys) p) zs e in
    let b = map-parts (λ ys. a.0 ∷ ys) p zs a.2 in
    (a.0, b.0, a.1, b.1, sym b.2)

pub all-made : {X : Type 0} (o : Option X) (p : Option (List X)) (y : X) (ys : List X) → o ≡ Some y → p ≡ Some ys → (o >>= λ y. option_map (λ ys. y ∷ ys) p) ≡ Some (y ∷ ys)
all-made o p y ys a b = rw (a, b) refl

abbrev reference_data : (Identity → Reference) → List Identity → Items
reference_data choose ds = items_of (map reference_value (map choose ds))

pub references-survive : (choose : Identity → Reference) (list other : List Identity) → ((d : Identity) → IsOf (choose d) d) → map identity_key other ≡ map identity_key list
    → (ds : List Identity) (fs : List Reference) (is : List Identity) → read_all reference_in (reference_data choose ds) ≡ Some fs → map_all (λ f. resolution_of f other) fs ≡ Some is
    → map identity_key is ≡ map identity_key ds → AllByRecursion (λ d. ReferenceSurvives (choose d) list d) ds
references-survive choose list other of same [] fs is r m k = tt
references-survive choose list other of same (d ∷ ds) fs is r m k =
    let a = all-parts (reference_of (reference_text (choose d))) (read_all reference_in (reference_data choose ds)) fs r in
    let b = all-parts (resolution_of a.0 other) (map_all (λ f. resolution_of f other) a.1) is (ap (map_all (λ f. resolution_of f other)) (sym a.4) ∙ m) in
    let keys = cons-parts (identity_key b.0) (identity_key d) (map identity_key b.1) (map identity_key ds) (ap (map identity_key) (sym b.4) ∙ k) in (
      reference-survives (choose d) a.0 list other d (of d) same (record { read = a.2; resolves = ap (option_map identity_key) b.2 ∙ ap Some keys.0 }),
      references-survive choose list other of same ds a.1 b.1 a.3 b.3 keys.1,
    )

pub references-read : (choose : Identity → Reference) (list : List Identity) → ((d : Identity) → IsOf (choose d) d)
    → (ds : List Identity) → AllByRecursion (λ d. ReferenceSurvives (choose d) list d) ds
    → (fs : List Reference) × (read_all reference_in (reference_data choose ds) ≡ Some fs)
    × ((other : List Identity) → map identity_key other ≡ map identity_key list → (is : List Identity) × (map_all (λ f. resolution_of f other) fs ≡ Some is) × (map identity_key is ≡ map identity_key ds))
references-read choose list of [] h = ([], refl, λ other same. ([], refl, refl))
references-read choose list of (d ∷ ds) h =
    let a = reference-reads (choose d) list d (of d) h.0 in
    let b = references-read choose list of ds h.1 in (
      a.0 ∷ b.0,
      rw (a.1, b.1) refl,
      λ other same.
          let p = map-parts identity_key (resolution_of a.0 other) (identity_key d) (a.2 other same) in
          let q = b.2 other same in
          (p.0 ∷ q.0, all-made _ _ p.0 q.0 p.1 q.1, λ i. p.2 i ∷ q.2 i),
    )

-- ---- replacements

abbrev replace_data : Bool → Option Identity → Option Data
replace_data escaped o = option_map reference_value (option_map (in_full escaped) o)

replace-survives : (escaped : Bool) (o : Option Identity) (r : Option Reference) (q : Option Identity) → optional_by reference_in (replace_data escaped o) ≡ Some r
    → map_some (λ f. resolution_of f []) r ≡ Some q → option_map identity_key q ≡ option_map identity_key o → IfSome o (λ d. ReferenceSurvives (in_full escaped d) [] d)
replace-survives escaped None r q e m k = tt
replace-survives escaped (Some d) r q e m k =
    let a = map-parts Some (reference_of (reference_text (in_full escaped d))) r e in
    let f : option_map Some (resolution_of a.0 []) ≡ Some q = ap (map_some (λ (f : Reference). resolution_of f [])) a.2 ∙ m in
    let b = map-parts Some (resolution_of a.0 []) q f in
    reference-survives (in_full escaped d) a.0 [] [] d (in_full-of escaped d) refl (record { read = a.1; resolves = ap (option_map identity_key) (b.1 ∙ b.2) ∙ k })

replace-reads : (escaped : Bool) (o : Option Identity) → IfSome o (λ d. ReferenceSurvives (in_full escaped d) [] d)
    → (r : Option Reference) × (q : Option Identity) × (optional_by reference_in (replace_data escaped o) ≡ Some r) × (map_some (λ f. resolution_of f []) r ≡ Some q) × (option_map identity_key q ≡ option_map identity_key o)
replace-reads escaped None h = (None, None, refl, refl, refl)
replace-reads escaped (Some d) h =
    let a = reference-reads (in_full escaped d) [] d (in_full-of escaped d) h in
    let p = map-parts identity_key (resolution_of a.0 []) (identity_key d) (a.2 [] refl) in
    (Some a.0, Some p.0, ap (option_map Some) a.1, ap (option_map Some) p.1, ap Some p.2)

-- ---- packages

-- the entry is read from the table of this package, written with this checksum and in these forms
abbrev pub IsEntry : ResolveVersion → Option (List ℕ) → (Identity → Reference) → PackageData → EncodedPackage → Type 0
IsEntry format checksum choose p e =
    IsRead (option_map checksum_value checksum) (unless_empty (map reference_value (map choose p.dependencies))) (replace_data (is_escaped format) p.replace) (source_data (is_escaped format) p.source) p.name p.version e

pub table-read : (format : ResolveVersion) (checksum : Option (List ℕ)) (choose : Identity → Reference) (p : PackageData) (e : EncodedPackage) → package_at_key (package_table (encoded_package_with format checksum choose p)) ≡ Some e → IsEntry format checksum choose p e
table-read format checksum choose p e h = read-parts _ _ _ _ p.name p.version e (sym (entry-present_members _ _ _ _ _ _) ∙ h)

read-table : (format : ResolveVersion) (checksum : Option (List ℕ)) (choose : Identity → Reference) (p : PackageData) (e : EncodedPackage) → IsEntry format checksum choose p e → package_at_key (package_table (encoded_package_with format checksum choose p)) ≡ Some e
read-table format checksum choose p e h = entry-present_members _ _ _ _ _ _ ∙ parts-read _ _ _ _ p.name p.version e h

-- the parts of a package that an entry means
pub record IsMade (list : List Identity) (checksum : Option (List ℕ)) (e : EncodedPackage) (q : PackageData) : Type 0 where
  pub name : e.name ≡ q.name
  pub version : e.version ≡ q.version
  pub source : unmarked_source e.source ≡ q.source
  pub checksum_is : checksum ≡ q.checksum
  pub dependencies : map_all (λ f. resolution_of f list) e.dependencies ≡ Some q.dependencies
  pub replace : map_some (λ f. resolution_of f []) e.replace ≡ Some q.replace

pub package-parts : (list : List Identity) (checksum : Option (List ℕ)) (e : EncodedPackage) (q : PackageData) → package_of list checksum e ≡ Some q → IsMade list checksum e q
package-parts list checksum e q h =
    let a = bind-parts (map_all (λ f. resolution_of f list) e.dependencies) _ q h in
    let b = bind-parts (map_some (λ f. resolution_of f []) e.replace) _ q a.2 in
    let made : ◌≡◌ {A = PackageData} (record { name = e.name; version = e.version; source = unmarked_source e.source; checksum = checksum; dependencies = a.0; replace = b.0 }) q = same_Some _ _ b.2 in
    record {
      name = ap (λ (x : PackageData). x.name) made;
      version = ap (λ (x : PackageData). x.version) made;
      source = ap (λ (x : PackageData). x.source) made;
      checksum_is = ap (λ (x : PackageData). x.checksum) made;
      dependencies = a.1 ∙ ap (λ (x : PackageData). Some x.dependencies) made;
      replace = b.1 ∙ ap (λ (x : PackageData). Some x.replace) made;
    }

-- an entry that was read, and means an equal package, is that of a package that survives
pub package-survives : (format : ResolveVersion) (checksum : Option (List ℕ)) (choose : Identity → Reference) (list other : List Identity) (sum : Option (List ℕ)) (p q : PackageData) (e : EncodedPackage)
    → ((d : Identity) → IsOf (choose d) d) → map identity_key other ≡ map identity_key list
    → IsEntry format checksum choose p e → IsMade other sum e q → package_key q ≡ package_key p → PackageSurvives format choose list p
package-survives format checksum choose list other sum p q e of same r m k =
    let listed : items_of (map reference_value (map choose p.dependencies)) ≡ r.items = same_Some _ _ (sym (list-read (map reference_value (map choose p.dependencies))) ∙ r.listed) in
    record {
      own = record {
        version = r.version ∙ ap Some (m.version ∙ ap (λ (x : PackageKey). x.identity.version) k);
        source = source-survives (is_escaped format) p.source r.bare r.source (ap (option_map key_of) (sym (bare-mark_plain r.bare) ∙ ap unmarked_source r.marked_plain ∙ m.source) ∙ ap (λ (x : PackageKey). x.identity.source) k);
        replace = replace-survives (is_escaped format) p.replace e.replace q.replace r.replace m.replace (ap (λ (x : PackageKey). x.replace) k);
      };
      dependencies = references-survive choose list other of same p.dependencies e.dependencies q.dependencies
          (ap (read_all reference_in) listed ∙ r.dependencies) m.dependencies (ap (λ (x : PackageKey). x.dependencies) k);
    }

-- what a package that survives is read as, and what that means
pub record Reads (format : ResolveVersion) (checksum : Option (List ℕ)) (choose : Identity → Reference) (list : List Identity) (p : PackageData) : Type 0 where
  pub entry : EncodedPackage
  pub read : package_at_key (package_table (encoded_package_with format checksum choose p)) ≡ Some entry
  pub checksum_is : entry.checksum ≡ checksum
  pub version_is : entry.version ≡ p.version
  pub name_is : entry.name ≡ p.name
  pub key_is : identity_key (encoded_identity entry) ≡ identity_key (identity_of p)
  pub means : (other : List Identity) (sum : Option (List ℕ)) → map identity_key other ≡ map identity_key list → sum ≡ p.checksum
      → (q : PackageData) × (package_of other sum entry ≡ Some q) × (package_key q ≡ package_key p)

pub package-reads : (format : ResolveVersion) (checksum : Option (List ℕ)) (choose : Identity → Reference) (list : List Identity) (p : PackageData) → ((d : Identity) → IsOf (choose d) d)
    → IfSome checksum DigestReadsBack → PackageSurvives format choose list p → Reads format checksum choose list p
package-reads format checksum choose list p of digest h =
    let s = source-reads (is_escaped format) p.source h.own.source in
    let d = references-read choose list of p.dependencies h.dependencies in
    let r = replace-reads (is_escaped format) p.replace h.own.replace in
    let e : EncodedPackage = record { name = p.name; version = p.version; source = option_map mark_plain s.0; checksum = checksum; dependencies = d.0; replace = r.0 } in
    record {
      entry = e;
      read = read-table format checksum choose p e (record {
        name = refl;
        version = h.own.version;
        bare = s.0;
        source = s.1;
        marked_plain = refl;
        checksum = digest-reads checksum digest;
        items = items_of (map reference_value (map choose p.dependencies));
        listed = list-read (map reference_value (map choose p.dependencies));
        dependencies = d.1;
        replace = r.2;
      });
      checksum_is = refl;
      version_is = refl;
      name_is = refl;
      key_is = ap (λ (k : Option Key). record { name = p.name; version = p.version; source = k }) (ap (option_map key_of) (bare-mark_plain s.0) ∙ s.2);
      means = λ other sum same is.
          let ds = d.2 other same in (
            record { name = p.name; version = p.version; source = s.0; checksum = sum; dependencies = ds.0; replace = r.1 },
            rw (ds.1, r.3, bare-mark_plain s.0) refl,
            λ i. record { identity = record { name = p.name; version = p.version; source = s.2 i }; checksum = is i; dependencies = ds.2 i; replace = r.4 i },
          );
    }
