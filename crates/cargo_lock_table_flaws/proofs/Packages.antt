-- The table of a package reads exactly if nothing in it is told.
use Rattle.std.proofs.Common.{◌≡◌, ℕ, true, List, [], ◌∷◌, codes, Option, Some, None, is_some, refl}
use Rattle.toml.specs.Data.{Data, string, integer, float, boolean, datetime, array, table, Items, no_items, item, Members, get_member}
use Rattle.cargo_lock_parts.specs.Checksum.{digest_in}
use Rattle.cargo_lock_parts.specs.SourceReading.{source_of}
use Rattle.cargo_lock_parts.specs.Optional.{◌>>=◌}
use Rattle.cargo_lock_references.specs.Reference.{reference_of, version_of}
use Rattle.toml_fields.specs.Fields.{optional_by, optional_list, read_all, required_text, text_in}
use Rattle.cargo_lock_encoding.specs.TableReading.{checksum_from, identity_at, package_at_key, reference_in, source_in}
use Rattle.cargo_lock_table_flaws.specs.declared.finding.Key.{Key}
use Rattle.cargo_lock_table_flaws.specs.declared.finding.Key.TheVariants as key
use Rattle.cargo_lock_table_flaws.specs.declared.finding.Place.{Place}
use Rattle.cargo_lock_table_flaws.specs.Finding.{OwnerData}
use Rattle.cargo_lock_table_flaws.specs.Laws.{ReadIfNoneUnread}
use Rattle.cargo_lock_table_flaws.specs.Unread.{in_some, is_optional, is_read_text, owner_at, unless_read, unread_at, unread_identity, unread_items, unread_list, unread_package, unread_parts, unread_references, written_as, written_at}
use Rattle.cargo_lock_table_flaws.proofs.Told.{Tells, accepted, made, mapped, next, next-two, refused, tested}

-- ---- one value

text-tells : {X : Type 0} (reads : List ℕ → Option X) (o : OwnerData) (k : Key) → ((s : List ℕ) → is_read_text k s ≡ is_some (reads s))
    → (d : Data) → Tells (text_in d >>= reads) (unless_read o k (written_as d))
text-tells reads o k is (string s) = rw (is s) (tested (reads s) _)
text-tells reads o k is (integer z) = refused _ []
text-tells reads o k is (float z) = refused _ []
text-tells reads o k is (boolean z) = refused _ []
text-tells reads o k is (datetime z) = refused _ []
text-tells reads o k is (array z) = refused _ []
text-tells reads o k is (table z) = refused _ []

optional-tells : {X : Type 0} (reads : List ℕ → Option X) (o : OwnerData) (k : Key) → ((s : List ℕ) → is_read_text k s ≡ is_some (reads s))
    → is_optional k ≡ true → (d : Option Data) → Tells (optional_by (λ d. text_in d >>= reads) d) (unless_read o k (written_at d))
optional-tells reads o k is may None = rw may accepted
optional-tells reads o k is may (Some d) = mapped (text_in d >>= reads) Some (unless_read o k (written_as d)) (text-tells reads o k is d)

name-tells : (o : OwnerData) (d : Option Data) → Tells (required_text d) (unless_read o key.Name (written_at d))
name-tells o None = refused _ []
name-tells o (Some (string s)) = accepted
name-tells o (Some (integer z)) = refused _ []
name-tells o (Some (float z)) = refused _ []
name-tells o (Some (boolean z)) = refused _ []
name-tells o (Some (datetime z)) = refused _ []
name-tells o (Some (array z)) = refused _ []
name-tells o (Some (table z)) = refused _ []

version-tells : (o : OwnerData) (d : Option Data) → Tells (required_text d >>= version_of) (unless_read o key.Version (written_at d))
version-tells o None = refused _ []
version-tells o (Some d) = text-tells version_of o key.Version (λ s. refl) d

-- ---- references

items-tell : (o : OwnerData) (ds : Items) → Tells (read_all reference_in ds) (unread_items o ds)
items-tell o no_items = accepted
items-tell o (item d ds) =
    next (reference_in d) _ (unless_read o key.Dependencies (written_as d)) (unread_items o ds) (text-tells reference_of o key.Dependencies (λ s. refl) d)
    (λ f. mapped (read_all reference_in ds) (λ fs. f ∷ fs) (unread_items o ds) (items-tell o ds))

list-tells : (o : OwnerData) (d : Option Data) → Tells (optional_list d >>= read_all reference_in) (in_some (unread_list o) d)
list-tells o None = accepted
list-tells o (Some (array ds)) = items-tell o ds
list-tells o (Some (string s)) = refused _ []
list-tells o (Some (integer z)) = refused _ []
list-tells o (Some (float z)) = refused _ []
list-tells o (Some (boolean z)) = refused _ []
list-tells o (Some (datetime z)) = refused _ []
list-tells o (Some (table z)) = refused _ []

-- ---- tables

pub identity-tells : (o : OwnerData) (ms : Members) → Tells (identity_at ms) (unread_identity o ms)
unfolding identity_at
identity-tells o ms =
    next (required_text (get_member (codes "name") ms)) _ (unread_at o key.Name ms) _ (name-tells o (get_member (codes "name") ms))
    (λ name. next-two (required_text (get_member (codes "version") ms)) version_of _ (unread_at o key.Version ms) (unread_at o key.Source ms)
    (version-tells o (get_member (codes "version") ms))
    (λ version. made (optional_by source_in (get_member (codes "source") ms)) _ (unread_at o key.Source ms)
    (optional-tells source_of o key.Source (λ s. refl) refl (get_member (codes "source") ms))))

pub package-tells : (place : Place) (ms : Members) → Tells (package_at_key ms) (unread_package place ms)
unfolding package_at_key
package-tells place ms =
    let o : OwnerData = owner_at place ms in
    next (identity_at ms) _ (unread_identity o ms) (unread_parts o ms) (identity-tells o ms)
    (λ identity. next (optional_by checksum_from (get_member (codes "checksum") ms)) _ (unread_at o key.Checksum ms) _
    (optional-tells digest_in o key.Checksum (λ s. refl) refl (get_member (codes "checksum") ms))
    (λ checksum. next-two (optional_list (get_member (codes "dependencies") ms)) (read_all reference_in) _ (unread_references o ms) (unread_at o key.Replace ms)
    (list-tells o (get_member (codes "dependencies") ms))
    (λ references. made (optional_by reference_in (get_member (codes "replace") ms)) _ (unread_at o key.Replace ms)
    (optional-tells reference_of o key.Replace (λ s. refl) refl (get_member (codes "replace") ms)))))

pub read_if_none_unread : ReadIfNoneUnread
read_if_none_unread = record {
  packages = package-tells;
  patches = λ place ms. identity-tells (owner_at place ms) ms;
}
