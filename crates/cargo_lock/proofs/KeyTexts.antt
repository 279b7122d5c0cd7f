-- What is written of a lockfile is told by the keys of its packages, its root and its patches.
use Rattle.std.proofs.Common.{◌≡◌, ℕ, ◌+◌, Bool, true, false, not, cond, ◌||◌, ◌&&◌, List, [], ◌∷◌, ◌++◌, map, Option, Some, None, option_map, codes, refl, sym, ◌∙◌, ap}
use Rattle.std.specs.Prelude.{ℤ, ◌==◌, if◌then◌else◌, count_by, reverse}
use Rattle.std.specs.FinMap.{entries, from_entries, retain_keys}
use Rattle.std.specs.List.{flat_map, list_any}
use Rattle.std.specs.Option.{option_to_list}
use Rattle.std.proofs.lemmas.List.Sums.{sum_by-cons}
use Rattle.semver.specs.Identifiers.{parts_text}
use Rattle.semver.specs.Parse.{Parts}
use Rattle.toml.specs.Data.{Data, string, integer, array, table, Members}
use Rattle.toml.specs.View.{items_of}
use Rattle.cargo_lock_parts.specs.Checksum.{digest_text}
use Rattle.cargo_lock_parts.specs.Identity.{Identity, IdentityKey, PackageData, PackageKey, identity_key, identity_of, package_key, source_part as brackets}
use Rattle.cargo_lock_parts.specs.Source.{Kind, Source, MarkedSource, Git, Path, Registry, SparseRegistry, LocalRegistry, Directory, is_path}
use Rattle.cargo_lock_parts.specs.SourceKey.{Key, key_of, precise_if_git}
use Rattle.cargo_lock_parts.specs.SourceText.{marked_text, text_by_kind, text_of}
use Rattle.cargo_lock_references.specs.declared.version.ResolveVersion.{ResolveVersion}
use Rattle.cargo_lock_references.specs.declared.version.ResolveVersion.TheVariants.{V1, V2, V3, V4}
use Rattle.cargo_lock_references.specs.WrittenReference.{has_name_and_version, has_name, written_reference, in_full, mark, exactly_one, shorten, unless_path, without_source, written_source}
use Rattle.cargo_lock_references.specs.Reference.{Reference, reference_text, one_word, marked_source_part, version_part}
use Rattle.cargo_lock_references.specs.Metadata.{checksum_key, checksum_pairs, has_key, metadata_of, pairs_before, with_checksums, without_checksums}
use Rattle.cargo_lock_references.specs.Records.{EncodedPackage, Texts, is_escaped}
use Rattle.cargo_lock_encoding.specs.Lockfiles.{EncodedData, LockfileData, is_escaped_number}
use Rattle.cargo_lock_references.specs.ResolutionSearch.{same_parts, same_text}
use Rattle.cargo_lock_encoding.specs.Survives.{HasSamePackages}
use Rattle.cargo_lock.specs.Same.{EqualTablesAndTexts}
use Rattle.cargo_lock.proofs.EqualLockfiles.{equal_fields}
use Rattle.cargo_lock_encoding.specs.Table.{checksum_value, encoded_of, encoded_table, encoded_package_of, encoded_package_value, encoded_package_with, reference_value, metadata_value, unused_patch_value, encoded_root, source_value, table_of, written_checksum, written_version}
use Rattle.cargo_lock_lines.specs.TableOfWords.{present_members, unless_empty, unless_no_patch}
use Rattle.cargo_lock_encoding.specs.Text.{checksum_line, dependency_line, encoded_lines, package_lines, patch_lines, reference_lines, replace_line, source_line, version_lines}
use Rattle.cargo_lock_lines.specs.Layout.{comment_lines, field, metadata_lines}
use Rattle.cargo_lock_lines.specs.Quoting.{quote}

-- ---- lists and options, by what keys tell

map-by : {X K Y : Type 0} (f : X → Y) (g : K → Y) (key : X → K) → ((x : X) → f x ≡ g (key x)) → (xs : List X)
    → map f xs ≡ map g (map key xs)
map-by f g key each [] = refl
map-by f g key each (x ∷ xs) = let h = each x in let t = map-by f g key each xs in λ i. h i ∷ t i

map-through : {X K Y Z : Type 0} (h : Y → Z) (f : X → Y) (g : K → Z) (key : X → K) → ((x : X) → h (f x) ≡ g (key x)) → (xs : List X)
    → map h (map f xs) ≡ map g (map key xs)
map-through h f g key each [] = refl
map-through h f g key each (x ∷ xs) = let a = each x in let t = map-through h f g key each xs in λ i. a i ∷ t i

optionally-by : {X K Y : Type 0} (f : X → Y) (g : K → Y) (key : X → K) → ((x : X) → f x ≡ g (key x)) → (o : Option X)
    → option_map f o ≡ option_map g (option_map key o)
optionally-by f g key each None = refl
optionally-by f g key each (Some x) = ap Some (each x)

optionally-through : {X K Y Z : Type 0} (h : Y → Z) (f : X → Y) (g : K → Z) (key : X → K) → ((x : X) → h (f x) ≡ g (key x)) → (o : Option X)
    → option_map h (option_map f o) ≡ option_map g (option_map key o)
optionally-through h f g key each None = refl
optionally-through h f g key each (Some x) = ap Some (each x)

lines-by : {X K Y : Type 0} (f : X → List Y) (g : K → List Y) (key : X → K) → ((x : X) → f x ≡ g (key x)) → (xs : List X)
    → flat_map f xs ≡ flat_map g (map key xs)
lines-by f g key each [] = refl
lines-by f g key each (x ∷ xs) = let h = each x in let t = lines-by f g key each xs in λ i. h i ++ t i

any-by : {X K : Type 0} (p : X → Bool) (q : K → Bool) (key : X → K) → ((x : X) → p x ≡ q (key x)) → (xs : List X)
    → list_any p xs ≡ list_any q (map key xs)
any-by p q key each [] = refl
any-by p q key each (x ∷ xs) = let h = each x in let t = any-by p q key each xs in λ i. h i || t i

count-key : {X K : Type 0} (q : K → Bool) (key : X → K) (xs : List X) → count_by (λ x. q (key x)) xs ≡ count_by q (map key xs)
count-key q key [] = refl
count-key q key (x ∷ xs) =
    sum_by-cons (λ x. cond (q (key x)) 1 0) x xs ∙ ap (λ (n : ℕ). cond (q (key x)) 1 0 + n) (count-key q key xs)
    ∙ sym (sum_by-cons (λ k. cond (q k) 1 0) (key x) (map key xs))

-- ---- sources

abbrev pub key_text : Bool → Key → List ℕ
key_text escaped k = text_by_kind escaped k.kind k.url k.precise

precise-unseen : (escaped : Bool) (k : Kind) (u : List ℕ) (p : Option (List ℕ)) → text_by_kind escaped k u p ≡ text_by_kind escaped k u (precise_if_git k p)
precise-unseen escaped (Git r) u p = refl
precise-unseen escaped Path u p = refl
precise-unseen escaped Registry u p = refl
precise-unseen escaped SparseRegistry u p = refl
precise-unseen escaped LocalRegistry u p = refl
precise-unseen escaped Directory u p = refl

pub text_of-key : (escaped : Bool) (s : Source) → text_of escaped s ≡ key_text escaped (key_of s)
unfolding text_of
text_of-key escaped s = precise-unseen escaped s.kind _ s.precise

abbrev key_unless_path : Bool → Key → Option Key
key_unless_path path k = if path then None else Some k

abbrev written_key : Option Key → Option Key
written_key None = None
written_key (Some k) = key_unless_path (is_path k.kind) k

-- the text of a source as it is written
abbrev written_text : Bool → Option Key → Option (List ℕ)
written_text escaped k = option_map (key_text escaped) (written_key k)

unless_path-text : (escaped path : Bool) (s : Source)
    → option_map marked_text (option_map (mark escaped) (unless_path path s)) ≡ option_map (key_text escaped) (key_unless_path path (key_of s))
unless_path-text escaped true s = refl
unless_path-text escaped false s = ap Some (text_of-key escaped s)

written_source-text : (escaped : Bool) (s : Option Source) → option_map marked_text (written_source escaped s) ≡ written_text escaped (option_map key_of s)
written_source-text escaped None = refl
written_source-text escaped (Some s) = unless_path-text escaped (is_path s.kind) s

-- ---- references

abbrev part_of_text : Option (List ℕ) → List ℕ
part_of_text None = []
part_of_text (Some t) = codes " (" ++ t ++ codes ")"

marked_source_part-text : (s : Option MarkedSource) → marked_source_part s ≡ part_of_text (option_map marked_text s)
marked_source_part-text None = refl
marked_source_part-text (Some s) = refl

abbrev full_text : Bool → IdentityKey → List ℕ
full_text escaped k = k.name ++ version_part (Some k.version) ++ part_of_text (written_text escaped k.source)

in_full-text : (escaped : Bool) (d : Identity) → reference_text (in_full escaped d) ≡ full_text escaped (identity_key d)
unfolding reference_text
in_full-text escaped d =
    ap (λ (t : List ℕ). d.name ++ version_part (Some d.version) ++ t)
    (marked_source_part-text (written_source escaped d.source) ∙ ap part_of_text (written_source-text escaped d.source))

abbrev named : List ℕ → IdentityKey → Bool
named name k = same_text k.name name

abbrev versioned : List ℕ → Parts → IdentityKey → Bool
versioned name version k = same_text k.name name && same_parts k.version version

abbrev one_named : List IdentityKey → IdentityKey → Bool
one_named keys k = count_by (named k.name) keys == 1

abbrev one_versioned : List IdentityKey → IdentityKey → Bool
one_versioned keys k = count_by (versioned k.name k.version) keys == 1

abbrev name_text : IdentityKey → List ℕ
name_text k = k.name ++ version_part None ++ marked_source_part None

abbrev version_text : IdentityKey → List ℕ
version_text k = k.name ++ version_part (Some k.version) ++ marked_source_part None

abbrev short_text : Bool → List IdentityKey → IdentityKey → List ℕ
short_text escaped keys k =
    if one_named keys k then name_text k else (if one_versioned keys k then version_text k else full_text escaped k)

pick : (b c : Bool) (x y z : Reference) → reference_text (if b then x else (if c then y else z)) ≡ (if b then reference_text x else (if c then reference_text y else reference_text z))
pick true c x y z = refl
pick false true x y z = refl
pick false false x y z = refl

one_word-text : (d : Identity) → reference_text (one_word d.name) ≡ name_text (identity_key d)
unfolding reference_text
one_word-text d = refl

without_source-text : (escaped : Bool) (d : Identity) → reference_text (without_source (in_full escaped d)) ≡ version_text (identity_key d)
unfolding reference_text
without_source-text escaped d = refl

shorten-text : (escaped : Bool) (list : List Identity) (d : Identity)
    → reference_text (shorten list (in_full escaped d)) ≡ short_text escaped (map identity_key list) (identity_key d)
unfolding shorten
shorten-text escaped list d =
    let a = count-key (named d.name) identity_key list in
    let b = count-key (versioned d.name d.version) identity_key list in
    let x = one_word-text d in
    let y = without_source-text escaped d in
    let z = in_full-text escaped d in
    pick (exactly_one (has_name d.name) list) (exactly_one (has_name_and_version d.name d.version) list) (one_word d.name) (without_source (in_full escaped d)) (in_full escaped d)
    ∙ (λ i. if a i == 1 then x i else (if b i == 1 then y i else z i))

abbrev written_reference_text : ResolveVersion → List IdentityKey → IdentityKey → List ℕ
written_reference_text V1 keys k = full_text false k
written_reference_text V2 keys k = short_text false keys k
written_reference_text V3 keys k = short_text false keys k
written_reference_text V4 keys k = short_text true keys k

written_reference-text : (v : ResolveVersion) (list : List Identity) (d : Identity)
    → reference_text (written_reference v list d) ≡ written_reference_text v (map identity_key list) (identity_key d)
unfolding written_reference
written_reference-text V1 list d = in_full-text false d
written_reference-text V2 list d = shorten-text false list d
written_reference-text V3 list d = shorten-text false list d
written_reference-text V4 list d = shorten-text true list d

-- ---- packages, with their sources and references as texts

record PackageTexts : Type 0 where
  pub name : List ℕ
  pub version : Parts
  pub source : Option (List ℕ)
  pub checksum : Option (List ℕ)
  pub dependencies : List (List ℕ)
  pub replace : Option (List ℕ)

abbrev package_texts : EncodedPackage → PackageTexts
package_texts e = record {
  name = e.name;
  version = e.version;
  source = option_map marked_text e.source;
  checksum = e.checksum;
  dependencies = map reference_text e.dependencies;
  replace = option_map reference_text e.replace;
}

abbrev texts_table : PackageTexts → Members
texts_table t = present_members (
    (codes "checksum", option_map checksum_value t.checksum)
    ∷ (codes "dependencies", unless_empty (map string t.dependencies))
    ∷ (codes "name", Some (string t.name))
    ∷ (codes "replace", option_map string t.replace)
    ∷ (codes "source", option_map string t.source)
    ∷ (codes "version", Some (string (parts_text t.version))) ∷ [])

abbrev texts_value : PackageTexts → Data
texts_value t = table (texts_table t)

encoded_package_value-texts : (e : EncodedPackage) → encoded_package_value e ≡ texts_value (package_texts e)
encoded_package_value-texts e =
    let ds = map-by reference_value string reference_text (λ f. refl) e.dependencies in
    let r = optionally-by reference_value string reference_text (λ f. refl) e.replace in
    let s = optionally-by source_value string marked_text (λ m. refl) e.source in
    λ i. table (present_members (
    (codes "checksum", option_map checksum_value e.checksum)
    ∷ (codes "dependencies", unless_empty (ds i))
    ∷ (codes "name", Some (string e.name))
    ∷ (codes "replace", r i)
    ∷ (codes "source", s i)
    ∷ (codes "version", Some (string (parts_text e.version))) ∷ []))

abbrev text_line : List ℕ → List ℕ
text_line t = 32 ∷ (quote t ++ 44 ∷ [])

abbrev text_reference_lines : List (List ℕ) → Option (List ℕ) → List (List ℕ)
text_reference_lines [] replace = option_to_list (option_map (field (codes "replace")) replace)
text_reference_lines (t ∷ ts) replace = codes "dependencies = [" ∷ (map text_line (t ∷ ts) ++ codes "]" ∷ [])

reference_lines-texts : (fs : List Reference) (r : Option Reference) → reference_lines fs r ≡ text_reference_lines (map reference_text fs) (option_map reference_text r)
reference_lines-texts [] r = ap option_to_list (optionally-by replace_line (field (codes "replace")) reference_text (λ f. refl) r)
reference_lines-texts (f ∷ fs) r =
    ap (λ (ls : List (List ℕ)). codes "dependencies = [" ∷ (ls ++ codes "]" ∷ [])) (map-by dependency_line text_line reference_text (λ f. refl) (f ∷ fs))

abbrev texts_lines : PackageTexts → List (List ℕ)
texts_lines t =
    [] ∷ codes "[[package]]" ∷ field (codes "name") t.name ∷ field (codes "version") (parts_text t.version)
    ∷ (option_to_list (option_map (field (codes "source")) t.source)
    ++ (option_to_list (option_map checksum_line t.checksum) ++ text_reference_lines t.dependencies t.replace))

package_lines-texts : (e : EncodedPackage) → package_lines e ≡ texts_lines (package_texts e)
package_lines-texts e =
    let s = optionally-by source_line (field (codes "source")) marked_text (λ m. refl) e.source in
    let r = reference_lines-texts e.dependencies e.replace in
    λ i. [] ∷ codes "[[package]]" ∷ field (codes "name") e.name ∷ field (codes "version") (parts_text e.version)
    ∷ (option_to_list (s i) ++ (option_to_list (option_map checksum_line e.checksum) ++ r i))

abbrev key_texts : Bool → Option (List ℕ) → (IdentityKey → List ℕ) → PackageKey → PackageTexts
key_texts escaped checksum text k = record {
  name = k.identity.name;
  version = k.identity.version;
  source = written_text escaped k.identity.source;
  checksum = checksum;
  dependencies = map text k.dependencies;
  replace = option_map (full_text escaped) k.replace;
}

encoded_package_with-texts : (v : ResolveVersion) (checksum : Option (List ℕ)) (reference : Identity → Reference) (text : IdentityKey → List ℕ) (p : PackageData)
    → ((d : Identity) → reference_text (reference d) ≡ text (identity_key d))
    → package_texts (encoded_package_with v checksum reference p) ≡ key_texts (is_escaped v) checksum text (package_key p)
encoded_package_with-texts v checksum reference text p each =
    let s = written_source-text (is_escaped v) p.source in
    let ds = map-through reference_text reference text identity_key each p.dependencies in
    let r = optionally-through reference_text (in_full (is_escaped v)) (full_text (is_escaped v)) identity_key (in_full-text (is_escaped v)) p.replace in
    λ i. record { name = p.name; version = p.version; source = s i; checksum = checksum; dependencies = ds i; replace = r i }

-- ---- patches

record PatchTexts : Type 0 where
  pub name : List ℕ
  pub version : Parts
  pub source : Option (List ℕ)

abbrev patch_texts : Bool → Identity → PatchTexts
patch_texts escaped i = record { name = i.name; version = i.version; source = option_map marked_text (written_source escaped i.source) }

abbrev patch_texts_value : PatchTexts → Data
patch_texts_value t = table (present_members (
    (codes "name", Some (string t.name))
    ∷ (codes "source", option_map string t.source)
    ∷ (codes "version", Some (string (parts_text t.version))) ∷ []))

patch_value-texts : (escaped : Bool) (i : Identity) → unused_patch_value escaped i ≡ patch_texts_value (patch_texts escaped i)
patch_value-texts escaped d =
    let s = optionally-by source_value string marked_text (λ m. refl) (written_source escaped d.source) in
    λ i. table (present_members (
    (codes "name", Some (string d.name))
    ∷ (codes "source", s i)
    ∷ (codes "version", Some (string (parts_text d.version))) ∷ []))

abbrev patch_texts_lines : PatchTexts → List (List ℕ)
patch_texts_lines t =
    [] ∷ codes "[[patch.unused]]" ∷ field (codes "name") t.name ∷ field (codes "version") (parts_text t.version)
    ∷ (option_to_list (option_map (field (codes "source")) t.source) ++ [] ∷ [])

patch_lines-texts : (escaped : Bool) (d : Identity) → patch_lines escaped d ≡ patch_texts_lines (patch_texts escaped d)
patch_lines-texts escaped d =
    let s = optionally-by source_line (field (codes "source")) marked_text (λ m. refl) (written_source escaped d.source) in
    λ i. [] ∷ codes "[[patch.unused]]" ∷ field (codes "name") d.name ∷ field (codes "version") (parts_text d.version)
    ∷ (option_to_list (s i) ++ [] ∷ [])

abbrev key_patch : Bool → IdentityKey → PatchTexts
key_patch escaped k = record { name = k.name; version = k.version; source = written_text escaped k.source }

patch_texts-key : (escaped : Bool) (d : Identity) → patch_texts escaped d ≡ key_patch escaped (identity_key d)
patch_texts-key escaped d = let s = written_source-text escaped d.source in λ i. record { name = d.name; version = d.version; source = s i }

-- ---- all values

record EncodedTexts : Type 0 where
  pub version : Option ℤ
  pub packages : List PackageTexts
  pub root : Option PackageTexts
  pub metadata : Texts
  pub patch : List PatchTexts

abbrev encoded_texts : EncodedData → EncodedTexts
encoded_texts e = record {
  version = e.version;
  packages = map package_texts e.packages;
  root = option_map package_texts e.root;
  metadata = e.metadata;
  patch = map (patch_texts (is_escaped_number e.version)) e.patch;
}

abbrev table_of_texts : EncodedTexts → Members
table_of_texts e = present_members (
    (codes "metadata", metadata_value e.metadata)
    ∷ (codes "package", Some (array (items_of (map texts_value e.packages))))
    ∷ (codes "patch", unless_no_patch (map patch_texts_value e.patch))
    ∷ (codes "root", option_map texts_value e.root)
    ∷ (codes "version", option_map integer e.version) ∷ [])

encoded_table-texts : (e : EncodedData) → encoded_table e ≡ table_of_texts (encoded_texts e)
unfolding encoded_table
encoded_table-texts e =
    let ps = map-by encoded_package_value texts_value package_texts encoded_package_value-texts e.packages in
    let us = map-by (unused_patch_value (is_escaped_number e.version)) patch_texts_value (patch_texts (is_escaped_number e.version)) (patch_value-texts (is_escaped_number e.version)) e.patch in
    let r = optionally-by encoded_package_value texts_value package_texts encoded_package_value-texts e.root in
    λ i. present_members (
    (codes "metadata", metadata_value e.metadata)
    ∷ (codes "package", Some (array (items_of (ps i))))
    ∷ (codes "patch", unless_no_patch (us i))
    ∷ (codes "root", r i)
    ∷ (codes "version", option_map integer e.version) ∷ [])

abbrev lines_of_texts : EncodedTexts → List (List ℕ)
lines_of_texts e =
    comment_lines ++ (version_lines e.version ++ (flat_map texts_lines e.packages
    ++ (flat_map patch_texts_lines e.patch ++ metadata_lines (entries e.metadata))))

encoded_lines-texts : (e : EncodedData) → encoded_lines e ≡ lines_of_texts (encoded_texts e)
encoded_lines-texts e =
    let ps = lines-by package_lines texts_lines package_texts package_lines-texts e.packages in
    let us = lines-by (patch_lines (is_escaped_number e.version)) patch_texts_lines (patch_texts (is_escaped_number e.version)) (patch_lines-texts (is_escaped_number e.version)) e.patch in
    λ i. comment_lines ++ (version_lines e.version ++ (ps i ++ (us i ++ metadata_lines (entries e.metadata))))

-- ---- metadata

pub checksum_key_text : IdentityKey → List ℕ
checksum_key_text k = codes "checksum " ++ (k.name ++ codes " " ++ parts_text k.version ++ part_of_text (option_map (key_text false) k.source))

brackets-text : (s : Option Source) → brackets s ≡ part_of_text (option_map (key_text false) (option_map key_of s))
brackets-text None = refl
brackets-text (Some s) = ap (λ (t : List ℕ). codes " (" ++ t ++ codes ")") (text_of-key false s)

checksum_key-key : (d : Identity) → checksum_key d ≡ checksum_key_text (identity_key d)
unfolding checksum_key checksum_key_text
checksum_key-key d = ap (λ (t : List ℕ). codes "checksum " ++ (d.name ++ codes " " ++ parts_text d.version ++ t)) (brackets-text d.source)

abbrev key_before : PackageKey → Option (List ℕ) → List (List ℕ × List ℕ) → List (List ℕ × List ℕ)
key_before k None pairs = pairs
key_before k (Some c) pairs = (checksum_key_text k.identity, digest_text c) ∷ pairs

abbrev key_pairs : List PackageKey → List (List ℕ × List ℕ)
key_pairs [] = []
key_pairs (k ∷ ks) = key_before k k.checksum (key_pairs ks)

pairs_before-key : (p : PackageData) (c : Option (List ℕ)) (xs ys : List (List ℕ × List ℕ)) → xs ≡ ys → pairs_before p c xs ≡ key_before (package_key p) c ys
pairs_before-key p None xs ys e = e
pairs_before-key p (Some c) xs ys e = let k = checksum_key-key (identity_of p) in λ i. (k i, digest_text c) ∷ e i

checksum_pairs-key : (ps : List PackageData) → checksum_pairs ps ≡ key_pairs (map package_key ps)
checksum_pairs-key [] = refl
checksum_pairs-key (p ∷ ps) = pairs_before-key p p.checksum _ _ (checksum_pairs-key ps)

abbrev key_has : List ℕ → PackageKey → Bool
key_has q k = same_text q (checksum_key_text k.identity)

has_key-key : (q : List ℕ) (ps : List PackageData) → list_any (has_key q) ps ≡ list_any (key_has q) (map package_key ps)
has_key-key q ps = any-by (has_key q) (key_has q) package_key (λ p. ap (same_text q) (checksum_key-key (identity_of p))) ps

abbrev pub key_metadata : ResolveVersion → Texts → List PackageKey → Texts
key_metadata V1 m ks = from_entries (reverse (key_pairs ks) ++ entries m)
key_metadata V2 m ks = retain_keys m (λ q. not (list_any (key_has q) ks))
key_metadata V3 m ks = retain_keys m (λ q. not (list_any (key_has q) ks))
key_metadata V4 m ks = retain_keys m (λ q. not (list_any (key_has q) ks))

without-key : (m : Texts) (ps : List PackageData) → without_checksums m ps ≡ retain_keys m (λ q. not (list_any (key_has q) (map package_key ps)))
unfolding without_checksums
without-key m ps = λ i. retain_keys m (λ q. not (has_key-key q ps i))

with-key : (m : Texts) (ps : List PackageData) → with_checksums m ps ≡ key_metadata V1 m (map package_key ps)
unfolding with_checksums
with-key m ps = ap (λ (pairs : List (List ℕ × List ℕ)). from_entries (reverse pairs ++ entries m)) (checksum_pairs-key ps)

pub metadata_of-key : (v : ResolveVersion) (m : Texts) (ps : List PackageData) → metadata_of v m ps ≡ key_metadata v m (map package_key ps)
metadata_of-key V1 m ps = with-key m ps
metadata_of-key V2 m ps = without-key m ps
metadata_of-key V3 m ps = without-key m ps
metadata_of-key V4 m ps = without-key m ps

-- what is written of the metadata is told by the keys of the packages
pub metadata_of-same : (v : ResolveVersion) (m : Texts) (ps qs : List PackageData) → map package_key ps ≡ map package_key qs → metadata_of v m ps ≡ metadata_of v m qs
metadata_of-same v m ps qs e = metadata_of-key v m ps ∙ ap (key_metadata v m) e ∙ sym (metadata_of-key v m qs)

-- ---- lockfiles

identities-key : (ps : List PackageData) → map identity_key (map identity_of ps) ≡ map (λ k. k.identity) (map package_key ps)
identities-key ps = map-through identity_key identity_of (λ (k : PackageKey). k.identity) package_key (λ p. refl) ps

abbrev key_package : ResolveVersion → List IdentityKey → PackageKey → PackageTexts
key_package v keys k = key_texts (is_escaped v) (written_checksum v k.checksum) (written_reference_text v keys) k

abbrev key_root : ResolveVersion → PackageKey → PackageTexts
key_root v k = key_texts (is_escaped v) k.checksum (full_text (is_escaped v)) k

key_encoded : ResolveVersion → List PackageKey → Option PackageKey → Texts → List IdentityKey → EncodedTexts
key_encoded v packages root metadata patch = record {
  version = written_version v;
  packages = map (key_package v (map (λ k. k.identity) packages)) packages;
  root = option_map (key_root v) root;
  metadata = metadata;
  patch = map (key_patch (is_escaped_number (written_version v))) patch;
}

entries-key : (v : ResolveVersion) (ps : List PackageData)
    → map package_texts (map (encoded_package_of v (map identity_of ps)) ps) ≡ map (key_package v (map (λ k. k.identity) (map package_key ps))) (map package_key ps)
entries-key v ps =
    let list = map identity_of ps in
    let keys = identities-key ps in
    map-through package_texts (encoded_package_of v list) (key_package v (map identity_key list)) package_key
    (λ p. encoded_package_with-texts v (written_checksum v p.checksum) (written_reference v list) (written_reference_text v (map identity_key list)) p (written_reference-text v list)) ps
    ∙ (λ i. map (key_package v (keys i)) (map package_key ps))

encoded_of-key : (l : LockfileData)
    → encoded_texts (encoded_of l)
    ≡ key_encoded l.version (map package_key l.packages) (option_map package_key l.root) (metadata_of l.version l.metadata l.packages) (map identity_key l.patch)
unfolding encoded_of key_encoded
encoded_of-key l =
    let ps = entries-key l.version l.packages in
    let r = optionally-through package_texts (encoded_root l.version) (key_root l.version) package_key
    (λ p. encoded_package_with-texts l.version p.checksum (in_full (is_escaped l.version)) (full_text (is_escaped l.version)) p (in_full-text (is_escaped l.version))) l.root in
    let us = map-by (patch_texts (is_escaped_number (written_version l.version))) (key_patch (is_escaped_number (written_version l.version))) identity_key (patch_texts-key (is_escaped_number (written_version l.version))) l.patch in
    λ i. record { version = written_version l.version; packages = ps i; root = r i; metadata = metadata_of l.version l.metadata l.packages; patch = us i }

-- lockfiles with the same format, equal packages and the same written metadata have one written form
same-texts : (a b : LockfileData) → a.version ≡ b.version → HasSamePackages a b
    → metadata_of a.version a.metadata a.packages ≡ metadata_of b.version b.metadata b.packages
    → encoded_texts (encoded_of a) ≡ encoded_texts (encoded_of b)
same-texts a b version h metadata =
    encoded_of-key a
    ∙ (λ i. key_encoded (version i) (h.packages i) (h.root i) (metadata i) (h.patch i))
    ∙ sym (encoded_of-key b)

pub same-tables : (a b : LockfileData) → a.version ≡ b.version → HasSamePackages a b
    → metadata_of a.version a.metadata a.packages ≡ metadata_of b.version b.metadata b.packages → table_of a ≡ table_of b
same-tables a b version h metadata =
    encoded_table-texts (encoded_of a) ∙ ap table_of_texts (same-texts a b version h metadata) ∙ sym (encoded_table-texts (encoded_of b))

pub equal_tables_and_texts : EqualTablesAndTexts
equal_tables_and_texts a b h =
    let e = equal_fields a b h in
    let kept : HasSamePackages a b = record { packages = e.packages; root = e.root; patch = e.patch } in
    let metadata = (λ i. metadata_of (e.version i) (e.metadata i) a.packages) ∙ metadata_of-same b.version b.metadata a.packages b.packages e.packages in (
      same-tables a b e.version kept metadata,
      encoded_lines-texts (encoded_of a) ∙ ap lines_of_texts (same-texts a b e.version kept metadata) ∙ sym (encoded_lines-texts (encoded_of b)),
    )
