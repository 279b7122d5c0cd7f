-- The printed text of a lockfile that survives is read back.
use Rattle.std.proofs.Common.{◌≡◌, ◌↔◌, ◌⊎◌, inl, inr, List, [], ◌∷◌, length, map, Option, Some, None, option_map, codes, refl, sym, ◌∙◌, ap, arith}
use Rattle.std.specs.List.{AllByRecursion}
use Rattle.std.proofs.lemmas.Option.{none-some, same_Some}
use Rattle.toml.specs.Data.{Data, Items, integer}
use Rattle.cargo_lock_parts.specs.Identity.{Identity, PackageData, identity_of, package_key}
use Rattle.cargo_lock_encoding.specs.Meaning.{lockfile_of, meaning}
use Rattle.cargo_lock_references.specs.Metadata.{metadata_of}
use Rattle.cargo_lock_parts.specs.Optional.{◌>>=◌}
use Rattle.cargo_lock_encoding.specs.Means.{Means, TextMeans}
use Rattle.cargo_lock.specs.Printed.{PrintedBack, TextMeansOne, TextReadsBack}
use Rattle.cargo_lock_lines.specs.Layout.{join_lines}
use Rattle.cargo_lock_encoding.specs.Text.{lines_of}
use Rattle.toml.specs.Data.{Members}
use Rattle.toml.specs.Parse.{parse_document}
use Rattle.cargo_lock_encoding.specs.PrintedTable.{HasAllPrinted, printed_number, printed_package, printed_replace, printed_table}
use Rattle.cargo_lock_encoding.specs.Lockfiles.{EncodedData, LockfileData, is_escaped_number}
use Rattle.cargo_lock_references.specs.Records.{is_escaped}
use Rattle.cargo_lock_references.specs.Reference.{Reference}
use Rattle.cargo_lock_references.specs.declared.version.ResolveVersion.{ResolveVersion}
use Rattle.cargo_lock_references.specs.declared.version.ResolveVersion.TheVariants.{V1, V2, V3, V4}
use Rattle.cargo_lock_encoding.specs.Survives.{Survives, in_format}
use Rattle.cargo_lock_encoding.specs.Table.{encoded_of, encoded_package_of, encoded_package_value, metadata_value, patch_value, table_of, written_version}
use Rattle.cargo_lock_lines.specs.TableOfWords.{present_members, unless_empty}
use Rattle.toml_fields.specs.Fields.{optional_list}
use Rattle.cargo_lock_encoding.specs.TableReading.{all_encoded_packages_at, encoded_at, encoded_packages_at}
use Rattle.cargo_lock_encoding.proofs.MeansLemmas.{Means-from, Means-one}
use Rattle.cargo_lock.proofs.PackageTables.{list-read}
use Rattle.cargo_lock_encoding.proofs.PrintedTables.{text-is-read}
use Rattle.cargo_lock.proofs.Survival.{reading, survives-exactly, table-values, values_from}

pub printed-present_members : (m k p v : Option Data)
    → encoded_at (present_members ((codes "metadata", m) ∷ (codes "package", k) ∷ (codes "patch", p) ∷ (codes "version", v) ∷ [])) ≡ values_from m (optional_list k) p None v
unfolding encoded_at all_encoded_packages_at encoded_packages_at
printed-present_members None None None None = refl
printed-present_members None None None (Some v) = refl
printed-present_members None None (Some p) None = refl
printed-present_members None None (Some p) (Some v) = refl
printed-present_members None (Some k) None None = refl
printed-present_members None (Some k) None (Some v) = refl
printed-present_members None (Some k) (Some p) None = refl
printed-present_members None (Some k) (Some p) (Some v) = refl
printed-present_members (Some m) None None None = refl
printed-present_members (Some m) None None (Some v) = refl
printed-present_members (Some m) None (Some p) None = refl
printed-present_members (Some m) None (Some p) (Some v) = refl
printed-present_members (Some m) (Some k) None None = refl
printed-present_members (Some m) (Some k) None (Some v) = refl
printed-present_members (Some m) (Some k) (Some p) None = refl
printed-present_members (Some m) (Some k) (Some p) (Some v) = refl

-- ---- the table of the text

-- the written table without the root, and without an empty list of packages
abbrev whole_table : LockfileData → Members
whole_table l = present_members ((codes "metadata", metadata_value (metadata_of l.version l.metadata l.packages))
    ∷ (codes "package", unless_empty (map encoded_package_value (map (encoded_package_of l.version (map identity_of l.packages)) l.packages)))
    ∷ (codes "patch", patch_value (is_escaped l.version) l.patch) ∷ (codes "version", option_map integer (written_version l.version)) ∷ [])

map_none : {A B : Type 0} (f : A → B) (o : Option A) → o ≡ None → option_map f o ≡ None
map_none f None e = refl
map_none f (Some x) e = absurd (none-some x (sym e))

map_empty : {A B : Type 0} (f : A → B) (xs : List A) → xs ≡ [] → map f xs ≡ []
map_empty f [] e = refl
map_empty f (x ∷ xs) e = absurd (omega (arith, ap length e))

-- one of two parts is still absent where both are written
still : {A B C D : Type 0} (f : A → B) (g : C → D) (ds : List A) (o : Option C) → (ds ≡ []) ⊎ (o ≡ None) → (map f ds ≡ []) ⊎ (option_map g o ≡ None)
still f g ds o (inl none) = inl (map_empty f ds none)
still f g ds o (inr none) = inr (map_none g o none)

replace-whole : (ds : List Reference) (r : Option Reference) → (ds ≡ []) ⊎ (r ≡ None) → printed_replace ds r ≡ r
replace-whole [] r h = refl
replace-whole (d ∷ ds) r (inl none) = absurd (omega (arith, ap length none))
replace-whole (d ∷ ds) r (inr none) = sym none

package-whole : (format : ResolveVersion) (list : List Identity) (p : PackageData) → HasAllPrinted p → printed_package (encoded_package_of format list p) ≡ encoded_package_of format list p
package-whole format list p h =
    let e = encoded_package_of format list p in
    ap (λ (r : Option Reference). record { name = e.name; version = e.version; source = e.source; checksum = e.checksum; dependencies = e.dependencies; replace = r }) (replace-whole e.dependencies e.replace (still _ _ p.dependencies p.replace h))

packages-whole : (format : ResolveVersion) (list : List Identity) (ps : List PackageData) → AllByRecursion HasAllPrinted ps → map printed_package (map (encoded_package_of format list) ps) ≡ map (encoded_package_of format list) ps
packages-whole format list [] h = refl
packages-whole format list (p ∷ ps) h = rw (package-whole format list p h.0, packages-whole format list ps h.1) refl

number-whole : (format : ResolveVersion) → printed_number (written_version format) ≡ written_version format
number-whole V1 = refl
number-whole V2 = refl
number-whole V3 = refl
number-whole V4 = refl

escaped_number : (format : ResolveVersion) → is_escaped_number (written_version format) ≡ is_escaped format
escaped_number V1 = refl
escaped_number V2 = refl
escaped_number V3 = refl
escaped_number V4 = refl

table-whole : (l : LockfileData) → AllByRecursion HasAllPrinted l.packages → printed_table (encoded_of l) ≡ whole_table l
unfolding encoded_of
table-whole l printed = rw (packages-whole l.version (map identity_of l.packages) l.packages printed, number-whole l.version, escaped_number l.version) refl

whole-is-read : (l : LockfileData) → AllByRecursion HasAllPrinted l.packages → parse_document (join_lines (lines_of l)) ≡ Some (whole_table l)
whole-is-read l printed = text-is-read l ∙ ap Some (table-whole l printed)

-- ---- what it means

abbrev without_root : LockfileData → LockfileData
without_root l = record { version = l.version; packages = l.packages; root = None; metadata = l.metadata; patch = l.patch }

-- the table of the text is read as the table without a root is
printed-values : (l : LockfileData) → encoded_at (whole_table l) ≡ encoded_at (table_of (without_root l))
printed-values l =
    let ds = map encoded_package_value (map (encoded_package_of l.version (map identity_of l.packages)) l.packages) in
    let metadata = metadata_value (metadata_of l.version l.metadata l.packages) in
    let version = option_map integer (written_version l.version) in
    printed-present_members metadata (unless_empty ds) (patch_value (is_escaped l.version) l.patch) version
    ∙ ap (λ (o : Option Items). values_from metadata o (patch_value (is_escaped l.version) l.patch) None version) (list-read ds)
    ∙ sym (table-values l.version (without_root l))

no_root : (o : Option PackageData) → option_map package_key o ≡ None → o ≡ None
no_root None e = refl
no_root (Some p) e = absurd (none-some (package_key p) (sym e))

pub printed-back : PrintedBack
printed-back l h printed =
    let parsed = whole-is-read l printed in
    let survives : Survives (without_root l) l.version = record { packages = h.packages; root = tt; patch = h.patch; told = h.told } in
    let r = reading (without_root l) l.version survives in
    let means : meaning (whole_table l) ≡ Some r.read = ap (λ (o : Option EncodedData). o >>= lockfile_of) (printed-values l) ∙ r.means in (
      r.read,
      record { table = whole_table l; parsed = parsed; means = Means-from (whole_table l) r.read means },
      record { version = r.version; packages = r.same.packages; patch = r.same.patch; metadata = r.metadata; root = no_root r.read.root r.same.root },
    )

-- a meaning goes from a table to another whose values are read alike
Means-same : (a b : Members) (x : LockfileData) → encoded_at a ≡ encoded_at b → Means a x → Means b x
Means-same a b x same h = record { encoded = h.encoded; values = sym same ∙ h.values; lockfile_of = h.lockfile_of }

rootless : (l : LockfileData) → l.root ≡ None → without_root l ≡ l
rootless l h = ap (λ (o : Option PackageData). record { version = l.version; packages = l.packages; root = o; metadata = l.metadata; patch = l.patch }) (sym h)

-- the text of a lockfile with no root means what its table means
text-alike : (l : LockfileData) → l.root ≡ None → encoded_at (whole_table l) ≡ encoded_at (table_of l)
text-alike l h = printed-values l ∙ ap (λ (m : LockfileData). encoded_at (table_of m)) (rootless l h)

-- where there is no root and each package is printed whole, a text means what the table means
pub text-as-table : (l x : LockfileData) → l.root ≡ None → AllByRecursion HasAllPrinted l.packages → TextMeans (join_lines (lines_of l)) x ↔ Means (table_of l) x
text-as-table l x none printed =
    let parsed = whole-is-read l printed in
    let alike = text-alike l none in (
      λ text.
          let table : text.table ≡ whole_table l = same_Some _ _ (sym text.parsed ∙ parsed) in
          Means-same (whole_table l) (table_of l) x alike (rw table at text.means),
      λ means. record { table = whole_table l; parsed = parsed; means = Means-same (table_of l) (whole_table l) x (sym alike) means },
    )

pub text-survives-exactly : (l : LockfileData) (format : ResolveVersion) → l.root ≡ None → AllByRecursion HasAllPrinted l.packages → Survives l format ↔ TextReadsBack l format
text-survives-exactly l format none printed =
    let m = in_format format l in
    let exact = survives-exactly l format in (
      λ survives. let (x, means, version, same) = exact.0 survives in (x, (text-as-table m x none printed).1 means, version, same),
      λ back. let (x, text, version, same) = back in exact.1 (x, (text-as-table m x none printed).0 text, version, same),
    )

pub text-means-one : TextMeansOne
text-means-one text a b ha hb = Means-one ha.table a b ha.means (rw (same_Some _ _ (sym hb.parsed ∙ ha.parsed)) at hb.means)
