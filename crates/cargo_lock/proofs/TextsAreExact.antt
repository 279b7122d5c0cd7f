-- A text reads back only where it has all of the lockfile.
use Rattle.std.proofs.Common.{◌≡◌, ◌↔◌, Bool, IsTrue, IfOk, Result, List, [], ◌∷◌, map, Option, Some, None, option_map, refl, sym, ◌∙◌, ap, subst, inl, inr, ◌⊎◌}
use Rattle.std.proofs.lemmas.Option.{none-some, same_Some}
use Rattle.std.proofs.lemmas.Result.{IfOk-weaker}
use Rattle.std.specs.List.{AllByRecursion, AllZip}
use Rattle.toml.specs.Data.{Data, Items, integer}
use Rattle.toml.specs.View.{items_of}
use Rattle.cargo_lock_parts.specs.declared.error.Error.{Error}
use Rattle.cargo_lock_parts.specs.Identity.{Identity, PackageData, PackageKey, identity_key, identity_of, package_key}
use Rattle.cargo_lock_references.specs.Metadata.{metadata_of}
use Rattle.cargo_lock_parts.specs.Optional.{BothOrNone}
use Rattle.cargo_lock_references.specs.Records.{EncodedPackage, Texts}
use Rattle.cargo_lock_references.specs.WrittenReference.{written_reference}
use Rattle.cargo_lock_references.specs.declared.version.ResolveVersion.{ResolveVersion}
use Rattle.cargo_lock_encoding.specs.Lockfiles.{EncodedData, LockfileData, is_escaped_number}
use Rattle.cargo_lock_encoding.specs.Means.{IsListed, IsRoot, Means}
use Rattle.cargo_lock_encoding.specs.PrintedTable.{HasAllPrinted, printed_number, printed_package, printed_table}
use Rattle.cargo_lock.specs.Printed.{TextIsExact, TextReadsBack}
use Rattle.cargo_lock_encoding.specs.Survives.{Survives, in_format}
use Rattle.cargo_lock_encoding.specs.Table.{encoded_of, encoded_package_of, encoded_package_value, metadata_value, package_table, patch_value, written_checksum, written_version}
use Rattle.cargo_lock_lines.specs.TableOfWords.{unless_empty}
use Rattle.toml_fields.specs.Fields.{number_in, optional_by, read_all}
use Rattle.cargo_lock_encoding.specs.TableReading.{EncodedPackages, encoded_package_in, encoded_at, metadata_in, patch_in, package_at_key}
use Rattle.cargo_lock_encoding.proofs.MeansLemmas.{bind-parts}
use Rattle.cargo_lock.proofs.PackageTables.{all-parts, cons-parts, list-read, not-cons, table-read}
use Rattle.cargo_lock_encoding.proofs.PrintedTables.{text-is-read}
use Rattle.cargo_lock.proofs.PrintedTexts.{printed-present_members, text-survives-exactly}
use Rattle.cargo_lock.proofs.Survival.{encoded_packages_from, values_from}

was_none : {A B : Type 0} (f : A → B) (o : Option A) (p : Option A) → o ≡ None → option_map f o ≡ option_map f p → p ≡ None
was_none f o None e h = refl
was_none f o (Some x) e h = absurd (none-some (f x) (sym (ap (option_map f) e) ∙ h))

none_alike : {X Y : Type 0} (R : X → Y → Type 0) (a : Option X) (b : Option Y) → a ≡ None → BothOrNone R a b → b ≡ None
none_alike R a None e h = refl
none_alike R None (Some y) e h = absurd h
none_alike R (Some x) (Some y) e h = absurd (none-some x (sym e))

-- an entry that was read from it has a replacement only where there are no dependencies
printed-one : (format : ResolveVersion) (list : List Identity) (p : PackageData) (ds : List Identity) → p.dependencies ≡ ds → (a : EncodedPackage) → package_at_key (package_table (printed_package (encoded_package_of format list p))) ≡ Some a
    → (ds ≡ []) ⊎ (a.replace ≡ None)
printed-one format list p [] same a read = inl refl
printed-one format list p (d ∷ ds) same a read =
    let bare : PackageData = record { name = p.name; version = p.version; source = p.source; checksum = p.checksum; dependencies = d ∷ ds; replace = None } in
    let alike : printed_package (encoded_package_of format list p) ≡ encoded_package_of format list bare = rw same refl in
    let e = table-read format (written_checksum format p.checksum) (written_reference format list) bare a (sym (ap (λ (x : EncodedPackage). package_at_key (package_table x)) alike) ∙ read) in
    inr (same_Some _ _ (sym e.replace))

abbrev shown_items : ResolveVersion → List Identity → List PackageData → Items
shown_items format list ps = items_of (map encoded_package_value (map printed_package (map (encoded_package_of format list) ps)))

has-printed : (p : PackageData) → (p.dependencies ≡ []) ⊎ (p.replace ≡ None) → HasAllPrinted p
has-printed p h = h

-- an entry, and the package that it means
printed-pair : (format version : ResolveVersion) (list other : List Identity) (md : Texts) (p q : PackageData) (a : EncodedPackage) (ds : List Identity) → p.dependencies ≡ ds
    → (ds ≡ []) ⊎ (a.replace ≡ None) → IsListed version other md a q → package_key q ≡ package_key p → HasAllPrinted p
printed-pair format version list other md p q a ds same (inl none) listed k = inl (same ∙ none)
printed-pair format version list other md p q a ds same (inr none) listed k =
    inr (was_none identity_key q.replace p.replace (none_alike _ a.replace q.replace none listed.replace) (ap (λ (x : PackageKey). x.replace) k))

printed-entries : (format version : ResolveVersion) (list other : List Identity) (md : Texts) (ps : List PackageData) (es : List EncodedPackage) (qs : List PackageData)
    → read_all encoded_package_in (shown_items format list ps) ≡ Some es → AllZip (IsListed version other md) es qs → map package_key qs ≡ map package_key ps → AllByRecursion HasAllPrinted ps
printed-entries format version list other md [] es qs r zip k = tt
printed-entries format version list other md (p ∷ ps) es [] r zip k = absurd (not-cons (package_key p) (map package_key ps) k)
printed-entries format version list other md (p ∷ ps) es (q ∷ qs) r zip k =
    let a = all-parts (package_at_key (package_table (printed_package (encoded_package_of format list p)))) (read_all encoded_package_in (shown_items format list ps)) es r in
    let zipped = subst (λ (xs : List EncodedPackage). AllZip (IsListed version other md) xs (q ∷ qs)) a.4 zip in
    let keys = cons-parts (package_key q) (package_key p) (map package_key qs) (map package_key ps) k in (
      printed-pair format version list other md p q a.0 p.dependencies refl (printed-one format list p p.dependencies refl a.0 a.2) zipped.0 keys.0,
      printed-entries format version list other md ps a.1 qs a.3 zipped.1 keys.1,
    )

-- what the values of a text were read from
record AreRead (items : Items) (root : Option Data) (e : EncodedData) : Type 0 where
  listed : read_all encoded_package_in items ≡ Some e.packages
  base : optional_by encoded_package_in root ≡ Some e.root

read-values : (md : Option Data) (items : Items) (patch root version : Option Data) (e : EncodedData) → values_from md (Some items) patch root version ≡ Some e → AreRead items root e
read-values md items patch root version e h =
    let n = bind-parts (optional_by number_in version) _ e h in
    let all = bind-parts (encoded_packages_from (Some items) root) _ e n.2 in
    let m = bind-parts (metadata_in md) _ e all.2 in
    let p = bind-parts (patch_in patch) _ e m.2 in
    let es = bind-parts (read_all encoded_package_in items) _ all.0 all.1 in
    let r = bind-parts (optional_by encoded_package_in root) _ all.0 es.2 in
    let both : ◌≡◌ {A = EncodedPackages} (record { listed = es.0; root = r.0 }) all.0 = same_Some _ _ r.2 in
    let made : ◌≡◌ {A = EncodedData} (record { version = n.0; packages = all.0.listed; root = all.0.root; metadata = m.0; patch = p.0 }) e = same_Some _ _ p.2 in
    record {
      listed = es.1 ∙ ap (λ (x : EncodedPackages). Some x.listed) both ∙ ap (λ (x : EncodedData). Some x.packages) made;
      base = r.1 ∙ ap (λ (x : EncodedPackages). Some x.root) both ∙ ap (λ (x : EncodedData). Some x.root) made;
    }

-- the values of the text's table
text-values : (l : LockfileData) (format : ResolveVersion) (e : EncodedData) → encoded_at (printed_table (encoded_of (in_format format l))) ≡ Some e → AreRead (shown_items format (map identity_of l.packages) l.packages) None e
unfolding encoded_of
text-values l format e h =
    let ds = map encoded_package_value (map printed_package (map (encoded_package_of format (map identity_of l.packages)) l.packages)) in
    let metadata = metadata_value (metadata_of format l.metadata l.packages) in
    let patch = patch_value (is_escaped_number (written_version format)) l.patch in
    let version = option_map integer (printed_number (written_version format)) in
    let told : values_from metadata (Some (items_of ds)) patch None version ≡ Some e =
    sym (printed-present_members metadata (unless_empty ds) patch version ∙ ap (λ (o : Option Items). values_from metadata o patch None version) (list-read ds)) ∙ h in
    read-values metadata (items_of ds) patch None version e told

pub text-has-all : (l : LockfileData) (format : ResolveVersion) → TextReadsBack l format → (l.root ≡ None) × AllByRecursion HasAllPrinted l.packages
text-has-all l format (x, text, version, same) =
    let m = in_format format l in
    let table : text.table ≡ printed_table (encoded_of m) = same_Some _ _ (sym text.parsed ∙ text-is-read m) in
    let means : Means (printed_table (encoded_of m)) x = rw table at text.means in
    let r = text-values l format means.encoded means.values in (
      was_none package_key x.root l.root (none_alike IsRoot means.encoded.root x.root (same_Some _ _ (sym r.base)) means.lockfile_of.root) same.root,
      printed-entries format x.version (map identity_of l.packages) _ means.encoded.metadata l.packages means.encoded.packages x.packages r.listed means.lockfile_of.packages same.packages,
    )

pub text-is-exact : TextIsExact
text-is-exact l format = (
  λ h. (text-survives-exactly l format h.1 h.2).0 h.0,
  λ back.
      let all = text-has-all l format back in
      ((text-survives-exactly l format all.0 all.1).1 back, all.0, all.1),
)

-- what is decided of the table is decided of the text, where the text has all of the lockfile
pub decided-whole : (l : LockfileData) (format : ResolveVersion) (r : Result Bool Error) → (l.root ≡ None) × AllByRecursion HasAllPrinted l.packages
    → IfOk r (λ b. IsTrue b ↔ Survives l format) → IfOk r (λ b. IsTrue b ↔ TextReadsBack l format)
decided-whole l format r all =
    let exact = text-is-exact l format in
    IfOk-weaker r _ _ (λ b h. (λ true_b. exact.0 (h.0 true_b, all.0, all.1), λ back. h.1 (exact.1 back).0))
