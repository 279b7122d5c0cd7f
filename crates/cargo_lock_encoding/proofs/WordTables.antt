-- What the table of the words of a lockfile is read as.
use Rattle.std.proofs.Common.{◌≡◌, ℕ, ℤ, List, [], ◌∷◌, map, codes, Option, Some, None, option_map, Result, refl, ◌∙◌}
use Rattle.std.specs.FinMap.{empty}
use Rattle.toml.specs.Data.{Data, string, integer, Items}
use Rattle.toml.specs.View.{items_of}
use Rattle.cargo_lock_lines.specs.TableOfWords.{LinedIdentity, LinedLockfile, LinedPackage, identity_table, identity_value, lined_table, lined_value, present_members, text_members, unless_empty, unless_no_patch, unless_no_text, words_table}
use Rattle.cargo_lock_parts.specs.Checksum.{digest_in}
use Rattle.cargo_lock_parts.specs.declared.error.Error.{Error}
use Rattle.cargo_lock_parts.specs.Error.{ReadsUrls}
use Rattle.cargo_lock_parts.specs.Identity.{Identity}
use Rattle.cargo_lock_parts.specs.SourceReading.{source_of}
use Rattle.cargo_lock_parts.specs.Optional.{◌>>=◌, map_all, map_some}
use Rattle.cargo_lock_references.specs.Records.{EncodedPackage, Texts}
use Rattle.cargo_lock_references.specs.Reference.{mark_plain, reference_of, version_of}
use Rattle.cargo_lock_encoding.specs.Lockfiles.{EncodedData}
use Rattle.toml_fields.specs.Fields.{number_in, optional_by, optional_list, read_all, required_text}
use Rattle.cargo_lock_encoding.specs.TableReading.{EncodedPackages, all_encoded_packages_at, checksum_from, encoded_at, encoded_package_in, encoded_packages_at, identity_at, metadata_in, package_at_key, pairs_in, patch_in, put_all, reference_in, source_in, unused_patch_in}
use Rattle.cargo_lock_encoding.specs.WordsReading.{identity_from, package_from, values_from}

-- ---- what it is read as

abbrev identity_of_data : Option Data → Option Data → Option Data → Option Identity
identity_of_data name source version = do
  n ← required_text name
  text ← required_text version
  v ← version_of text
  s ← optional_by source_in source
  Some (record { name = n; version = v; source = s })

abbrev package_of_data : Option Data → Option Data → Option Data → Option Data → Option Data → Option Data → Option EncodedPackage
package_of_data checksum dependencies name replace source version = do
  i ← identity_of_data name source version
  c ← optional_by checksum_from checksum
  list ← optional_list dependencies
  fs ← read_all reference_in list
  r ← optional_by reference_in replace
  Some (record { name = i.name; version = i.version; source = option_map mark_plain i.source; checksum = c; dependencies = fs; replace = r })

package-data : (c d r s : Option Data) (n v : Data)
    → package_at_key (present_members ((codes "checksum", c) ∷ (codes "dependencies", d) ∷ (codes "name", Some n) ∷ (codes "replace", r) ∷ (codes "source", s) ∷ (codes "version", Some v) ∷ [])) ≡ package_of_data c d (Some n) r s (Some v)
unfolding package_at_key identity_at
package-data None None None None n v = refl
package-data None None None (Some s) n v = refl
package-data None None (Some r) None n v = refl
package-data None None (Some r) (Some s) n v = refl
package-data None (Some d) None None n v = refl
package-data None (Some d) None (Some s) n v = refl
package-data None (Some d) (Some r) None n v = refl
package-data None (Some d) (Some r) (Some s) n v = refl
package-data (Some c) None None None n v = refl
package-data (Some c) None None (Some s) n v = refl
package-data (Some c) None (Some r) None n v = refl
package-data (Some c) None (Some r) (Some s) n v = refl
package-data (Some c) (Some d) None None n v = refl
package-data (Some c) (Some d) None (Some s) n v = refl
package-data (Some c) (Some d) (Some r) None n v = refl
package-data (Some c) (Some d) (Some r) (Some s) n v = refl

source-word : (o : Option (List ℕ)) → optional_by source_in (option_map string o) ≡ map_some source_of o
source-word None = refl
source-word (Some w) = refl

digest-word : (o : Option (List ℕ)) → optional_by checksum_from (option_map string o) ≡ map_some digest_in o
digest-word None = refl
digest-word (Some w) = refl

reference-optional : (o : Option (List ℕ)) → optional_by reference_in (option_map string o) ≡ map_some reference_of o
reference-optional None = refl
reference-optional (Some w) = refl

list-word : (ws : List (List ℕ)) → optional_list (unless_empty (map string ws)) ≡ Some (items_of (map string ws))
list-word [] = refl
list-word (w ∷ ws) = refl

references-words : (ws : List (List ℕ)) → read_all reference_in (items_of (map string ws)) ≡ map_all reference_of ws
references-words [] = refl
references-words (w ∷ ws) = rw (references-words ws) refl

package-words : (w : LinedPackage) → package_at_key (lined_table w) ≡ package_from w
unfolding package_from identity_from
package-words w =
    package-data (option_map string w.checksum) (unless_empty (map string w.dependencies)) (option_map string w.replace) (option_map string w.identity.source) (string w.identity.name) (string w.identity.version)
    ∙ rw (source-word w.identity.source, digest-word w.checksum, list-word w.dependencies, references-words w.dependencies, reference-optional w.replace) refl

packages-words : (ws : List LinedPackage) → read_all encoded_package_in (items_of (map lined_value ws)) ≡ map_all package_from ws
packages-words [] = refl
packages-words (w ∷ ws) = rw (package-words w, packages-words ws) refl

lined-list : (ws : List LinedPackage) → optional_list (unless_empty (map lined_value ws)) ≡ Some (items_of (map lined_value ws))
lined-list [] = refl
lined-list (w ∷ ws) = refl

-- ---- unused patches and metadata

identity-data : (n : Data) (s : Option Data) (v : Data) → identity_at (present_members ((codes "name", Some n) ∷ (codes "source", s) ∷ (codes "version", Some v) ∷ [])) ≡ identity_of_data (Some n) s (Some v)
unfolding identity_at
identity-data n None v = refl
identity-data n (Some s) v = refl

identity-words : (i : LinedIdentity) → identity_at (identity_table i) ≡ identity_from i
unfolding identity_from
identity-words i = identity-data (string i.name) (option_map string i.source) (string i.version) ∙ rw (source-word i.source) refl

patches-words : (is : List LinedIdentity) → read_all unused_patch_in (items_of (map identity_value is)) ≡ map_all identity_from is
patches-words [] = refl
patches-words (i ∷ is) = rw (identity-words i, patches-words is) refl

patch-words : (is : List LinedIdentity) → patch_in (unless_no_patch (map identity_value is)) ≡ map_all identity_from is
patch-words [] = refl
patch-words (i ∷ is) = patches-words (i ∷ is)

pairs-words : (ms : List (List ℕ × List ℕ)) → pairs_in (text_members ms) ≡ Some ms
pairs-words [] = refl
pairs-words (m ∷ ms) = rw (pairs-words ms) refl

metadata-words : (ms : List (List ℕ × List ℕ)) → metadata_in (unless_no_text ms) ≡ Some (put_all empty ms)
metadata-words [] = refl
metadata-words (m ∷ ms) = rw (pairs-words ms) refl

-- ---- the whole

abbrev packages_of_data : Option Items → Option Data → Option EncodedPackages
packages_of_data items root = do
  es ← (do
    list ← items
    read_all encoded_package_in list)
  base ← optional_by encoded_package_in root
  Some (record { listed = es; root = base })

abbrev values_of_data : Option Data → Option Items → Option Data → Option Data → Option EncodedData
values_of_data metadata items patch version = do
  number ← optional_by number_in version
  all ← packages_of_data items None
  md ← metadata_in metadata
  unused ← patch_in patch
  Some (record { version = number; packages = all.listed; root = all.root; metadata = md; patch = unused })

values-data : (m k p v : Option Data) → encoded_at (present_members ((codes "metadata", m) ∷ (codes "package", k) ∷ (codes "patch", p) ∷ (codes "version", v) ∷ [])) ≡ values_of_data m (optional_list k) p v
unfolding encoded_at all_encoded_packages_at encoded_packages_at
values-data None None None None = refl
values-data None None None (Some v) = refl
values-data None None (Some p) None = refl
values-data None None (Some p) (Some v) = refl
values-data None (Some k) None None = refl
values-data None (Some k) None (Some v) = refl
values-data None (Some k) (Some p) None = refl
values-data None (Some k) (Some p) (Some v) = refl
values-data (Some m) None None None = refl
values-data (Some m) None None (Some v) = refl
values-data (Some m) None (Some p) None = refl
values-data (Some m) None (Some p) (Some v) = refl
values-data (Some m) (Some k) None None = refl
values-data (Some m) (Some k) None (Some v) = refl
values-data (Some m) (Some k) (Some p) None = refl
values-data (Some m) (Some k) (Some p) (Some v) = refl

number-word : (v : Option ℤ) → optional_by number_in (option_map integer v) ≡ Some v
number-word None = refl
number-word (Some z) = refl

-- the packages and the root of a table, and then the rest
abbrev both : List EncodedPackage → EncodedPackages
both es = record { listed = es; root = None }

abbrev joined : Option (List EncodedPackage) → Option (List Identity) → Option ℤ → Texts → Option EncodedData
joined es patch number md =
    (es >>= λ listed. Some (both listed)) >>= λ all. patch >>= λ unused. Some (record { version = number; packages = all.listed; root = all.root; metadata = md; patch = unused })

listed : (es : Option (List EncodedPackage)) (patch : Option (List Identity)) (number : Option ℤ) (md : Texts)
    → joined es patch number md ≡ (es >>= λ packages. patch >>= λ unused. Some (record { version = number; packages = packages; root = None; metadata = md; patch = unused }))
listed None patch number md = refl
listed (Some es) patch number md = refl

-- the values of the words are those of their table
pub words-read : (l : LinedLockfile) → encoded_at (words_table l) ≡ values_from l
unfolding words_table values_from
words-read l =
    values-data (unless_no_text l.metadata) (unless_empty (map lined_value l.packages)) (unless_no_patch (map identity_value l.patches)) (option_map integer l.number)
    ∙ rw (lined-list l.packages, number-word l.number, packages-words l.packages, metadata-words l.metadata, patch-words l.patches) (listed (map_all package_from l.packages) (map_all identity_from l.patches) l.number (put_all empty l.metadata))

pub ReadsUrls-words : (L : Type 0) (l : LinedLockfile) (r : Result EncodedData Error) → ReadsUrls L (λ e. e) r (values_from l) → ReadsUrls L (λ e. e) r (encoded_at (words_table l))
ReadsUrls-words L l r h = rw (words-read l) h
