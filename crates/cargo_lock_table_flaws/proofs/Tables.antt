-- Nothing is told as unread of a table that has values.
use Rattle.std.proofs.Common.{◌≡◌, ◌+◌, ℕ, List, [], codes, Option, Some, None, is_some, refl, ap}
use Rattle.toml.specs.Data.{Data, string, integer, float, boolean, datetime, array, table, Items, no_items, item, Members, as_table, get_member}
use Rattle.cargo_lock_parts.specs.Identity.{Identity}
use Rattle.toml_fields.specs.Fields.{items_in, members_in, number_in, optional_by, optional_list, read_all, required_list}
use Rattle.cargo_lock_encoding.specs.TableReading.{EncodedPackages, all_encoded_packages_at, encoded_at, encoded_package_in, encoded_packages_at, identity_at, metadata_in, package_at_key, patch_at, patch_in, unused_patch_in}
use Rattle.cargo_lock_encoding.proofs.MeansLemmas.{bind-parts, map-parts, more-parts}
use Rattle.cargo_lock_parts.specs.Optional.{◌>>=◌}
use Rattle.cargo_lock_references.specs.Records.{EncodedPackage}
use Rattle.cargo_lock_table_flaws.specs.declared.finding.Place.{Place}
use Rattle.cargo_lock_table_flaws.specs.declared.finding.Place.TheVariants.{Listed, Root, Unused}
use Rattle.cargo_lock_table_flaws.specs.Finding.{TableFindingData}
use Rattle.cargo_lock_table_flaws.specs.Laws.{NoneUnreadIfRead}
use Rattle.cargo_lock_table_flaws.specs.Unread.{in_some, owner_at, unread_each, unread_listed, unread_numbered, unread_package, unread_packages, unread_patch, unread_patch_table, unread_patches_in, unread_root, unread_root_table, unread_unused, unread_values}
use Rattle.cargo_lock_table_flaws.proofs.Packages.{identity-tells, package-tells}

-- what is told of a value that is a table, by what is told of the table
of-table : {X : Type 0} (reads : Members → Option X) (told : Members → List TableFindingData) → ((ms : Members) (x : X) → reads ms ≡ Some x → told ms ≡ [])
    → (d : Data) (x : X) → (members_in d >>= reads) ≡ Some x → in_some told (as_table d) ≡ []
of-table reads told none (table ms) x e = none ms x e
of-table reads told none (string s) x e = refl
of-table reads told none (integer z) x e = refl
of-table reads told none (float z) x e = refl
of-table reads told none (boolean z) x e = refl
of-table reads told none (datetime z) x e = refl
of-table reads told none (array z) x e = refl

numbered : {X : Type 0} (reads : Data → Option X) (told : ℕ → Data → List TableFindingData)
    → ((n : ℕ) (d : Data) (x : X) → reads d ≡ Some x → told n d ≡ []) → (ds : Items) (n : ℕ) (xs : List X)
    → read_all reads ds ≡ Some xs → unread_numbered told n ds ≡ []
numbered reads told none no_items n xs e = refl
numbered reads told none (item d ds) n xs e =
    let m = more-parts (reads d) (read_all reads ds) xs e in
    rw (none n d m.0 m.2, numbered reads told none ds (n + 1) m.1 m.3)

-- what is told of a list, whose items read
of-list : {X : Type 0} (reads : Data → Option X) (told : ℕ → Data → List TableFindingData)
    → ((n : ℕ) (d : Data) (x : X) → reads d ≡ Some x → told n d ≡ []) → (d : Data) (xs : List X)
    → (items_in d >>= read_all reads) ≡ Some xs → unread_each told d ≡ []
of-list reads told none (array ds) xs e = numbered reads told none ds 1 xs e
of-list reads told none (string s) xs e = refl
of-list reads told none (integer z) xs e = refl
of-list reads told none (float z) xs e = refl
of-list reads told none (boolean z) xs e = refl
of-list reads told none (datetime z) xs e = refl
of-list reads told none (table z) xs e = refl

package-none : (place : Place) (ms : Members) (p : EncodedPackage) → package_at_key ms ≡ Some p → unread_package place ms ≡ []
package-none place ms p e = (package-tells place ms).0 (ap is_some e)

patch-none : (place : Place) (ms : Members) (i : Identity) → identity_at ms ≡ Some i → unread_patch place ms ≡ []
patch-none place ms i e = (identity-tells (owner_at place ms) ms).0 (ap is_some e)

listed-none : (n : ℕ) (d : Data) (p : EncodedPackage) → encoded_package_in d ≡ Some p → unread_listed n d ≡ []
listed-none n d p e = of-table package_at_key (unread_package (Listed n)) (package-none (Listed n)) d p e

unused-none : (n : ℕ) (d : Data) (i : Identity) → unused_patch_in d ≡ Some i → unread_unused n d ≡ []
unused-none n d i e = of-table identity_at (unread_patch (Unused n)) (patch-none (Unused n)) d i e

packages-none : (d : Option Data) (ps : List EncodedPackage) → (optional_list d >>= read_all encoded_package_in) ≡ Some ps
    → in_some (unread_each unread_listed) d ≡ []
packages-none None ps e = refl
packages-none (Some d) ps e = of-list encoded_package_in unread_listed listed-none d ps e

root-none : (d : Option Data) (p : Option EncodedPackage) → optional_by encoded_package_in d ≡ Some p → in_some unread_root_table d ≡ []
root-none None p e = refl
root-none (Some d) p e =
    let some = map-parts Some (encoded_package_in d) p e in
    of-table package_at_key (unread_package Root) (package-none Root) d some.0 some.1

patches-at : (d : Option Data) (is : List Identity) → (required_list d >>= read_all unused_patch_in) ≡ Some is
    → in_some (unread_each unread_unused) d ≡ []
patches-at None is e = refl
patches-at (Some d) is e = of-list unused_patch_in unread_unused unused-none d is e

patch-table-none : (ms : Members) (is : List Identity) → patch_at ms ≡ Some is → unread_patch_table ms ≡ []
patch-table-none ms is e = patches-at (get_member (codes "unused") ms) is e

patches-none : (d : Option Data) (is : List Identity) → patch_in d ≡ Some is → in_some unread_patches_in d ≡ []
patches-none None is e = refl
patches-none (Some d) is e = of-table patch_at unread_patch_table patch-table-none d is e

all-none : (t : Members) (all : EncodedPackages) → all_encoded_packages_at t ≡ Some all → (unread_packages t ≡ []) × (unread_root t ≡ [])
unfolding all_encoded_packages_at encoded_packages_at
all-none t all e =
    let listed = bind-parts (optional_list (get_member (codes "package") t) >>= read_all encoded_package_in) _ all e in
    let root = bind-parts (optional_by encoded_package_in (get_member (codes "root") t)) _ all listed.2 in
    (packages-none (get_member (codes "package") t) listed.0 listed.1, root-none (get_member (codes "root") t) root.0 root.1)

pub none_unread_if_read : NoneUnreadIfRead
unfolding encoded_at unread_values
none_unread_if_read t e is =
    let version = bind-parts (optional_by number_in (get_member (codes "version") t)) _ e is in
    let all = bind-parts (all_encoded_packages_at t) _ e version.2 in
    let metadata = bind-parts (metadata_in (get_member (codes "metadata") t)) _ e all.2 in
    let patch = bind-parts (patch_in (get_member (codes "patch") t)) _ e metadata.2 in
    let parts = all-none t all.0 all.1 in
    rw (parts.0, parts.1, patches-none (get_member (codes "patch") t) patch.0 patch.1)
