-- The packages whose references are resolved as they are read are those of the values of the words.
use Rattle.std.proofs.Common.{◌≡◌, ◌≢◌, ℕ, ℤ, List, [], ◌∷◌, map, Option, Some, None, Bool, true, false, option_map, refl, subst, sym, ap, ◌∙◌}
use Rattle.std.specs.FinMap.{empty}
use Rattle.std.proofs.lemmas.Option.{same_Some}
use Rattle.cargo_lock_lines.specs.TableOfWords.{LinedLockfile, LinedPackage, words_table}
use Rattle.cargo_lock_parts.specs.Checksum.{digest_in}
use Rattle.cargo_lock_parts.specs.Identity.{Identity, PackageData, identity_of}
use Rattle.cargo_lock_references.specs.declared.version.ResolveVersion.{ResolveVersion}
use Rattle.cargo_lock_references.specs.declared.version.ResolveVersion.TheVariants.{V1, V2, V3, V4}
use Rattle.cargo_lock_references.specs.Format.{format_by, format_by_checksums, has_checksum}
use Rattle.cargo_lock_references.specs.Metadata.{has_checksum_key}
use Rattle.cargo_lock_parts.specs.Optional.{◌>>=◌, map_all, map_some}
use Rattle.cargo_lock_references.specs.Records.{EncodedPackage, Texts, encoded_identity}
use Rattle.cargo_lock_references.specs.Reference.{Reference, mark_plain, reference_of}
use Rattle.cargo_lock_references.specs.ResolutionSearch.{resolution_of}
use Rattle.cargo_lock_encoding.specs.Lockfiles.{LockfileData}
use Rattle.cargo_lock_encoding.specs.Meaning.{all_packages, lockfile_of, meaning, package_of}
use Rattle.cargo_lock_encoding.specs.ResolvedWords.{bare_package, each_with, meant_by, resolved_packages, resolved_word, resolved_words, with_dependencies}
use Rattle.cargo_lock_encoding.specs.TableReading.{put_all}
use Rattle.cargo_lock_encoding.specs.WordsReading.{identity_from, package_from, values_from}
use Rattle.cargo_lock_encoding.proofs.MeansLemmas.{bare-mark_plain, bind-parts, map-parts, more-parts}
use Rattle.cargo_lock_encoding.proofs.WordTables.{words-read}

-- ---- one after the other

all-more : {X Y : Type 0} (f : X → Option Y) (x : X) (xs : List X) (y : Y) (ys zs : List Y) → f x ≡ Some y → map_all f xs ≡ Some ys → zs ≡ y ∷ ys → map_all f (x ∷ xs) ≡ Some zs
all-more f x xs y ys zs head rest is = rw (head, rest) (ap Some (sym is))

all-then : {X Y Z : Type 0} (f : X → Option Y) (g : Y → Option Z) (xs : List X) (zs : List Z) → map_all (λ x. f x >>= g) xs ≡ Some zs → (ys : List Y) × (map_all f xs ≡ Some ys) × (map_all g ys ≡ Some zs)
all-then f g [] zs e = ([], refl, e)
all-then f g (x ∷ xs) zs e =
    let m = more-parts (f x >>= g) (map_all (λ x. f x >>= g) xs) zs e in
    let y = bind-parts (f x) g m.0 m.2 in
    let rest = all-then f g xs m.1 m.3 in
    (y.0 ∷ rest.0, all-more f x xs y.0 rest.0 (y.0 ∷ rest.0) y.1 rest.1 refl, all-more g y.0 rest.0 m.0 m.1 zs y.2 rest.2 m.4)

one-more : {X Y : Type 0} (f : X → Option Y) (x : X) (y : Y) (p : Option Y) → f x ≡ Some y → Some y ≡ p → map_some f (Some x) ≡ Some p
one-more f x y p at is = rw at (ap Some is)

some-then : {X Y Z : Type 0} (f : X → Option Y) (g : Y → Option Z) (o : Option X) (p : Option Z) → map_some (λ x. f x >>= g) o ≡ Some p → (q : Option Y) × (map_some f o ≡ Some q) × (map_some g q ≡ Some p)
some-then f g None p e = (None, refl, e)
some-then f g (Some x) p e =
    let m = map-parts Some (f x >>= g) p e in
    let y = bind-parts (f x) g m.0 m.1 in
    (Some y.0, one-more f x y.0 (Some y.0) y.1 refl, one-more g y.0 m.0 p y.2 m.2)

-- ---- a package

abbrev encoded : Identity → Option (List ℕ) → List Reference → Option Reference → EncodedPackage
encoded i c fs f = record { name = i.name; version = i.version; source = option_map mark_plain i.source; checksum = c; dependencies = fs; replace = f }

abbrev alone : Identity → Option (List ℕ) → Option Identity → PackageData
alone i c r = record { name = i.name; version = i.version; source = i.source; checksum = c; dependencies = []; replace = r }

from-words : (w : LinedPackage) (i : Identity) (c : Option (List ℕ)) (fs : List Reference) (f : Option Reference) → identity_from w.identity ≡ Some i → map_some digest_in w.checksum ≡ Some c → map_all reference_of w.dependencies ≡ Some fs → map_some reference_of w.replace ≡ Some f → package_from w ≡ Some (encoded i c fs f)
unfolding package_from
from-words w i c fs f identity checksum references replace = rw (identity, checksum, references, replace) refl

meant-by : (list : List Identity) (i : Identity) (c : Option (List ℕ)) (fs : List Reference) (f : Option Reference) (ds : List Identity) (r : Option Identity) (p : PackageData) → map_all (λ f. resolution_of f list) fs ≡ Some ds → map_some (λ f. resolution_of f []) f ≡ Some r → alone i c r ≡ p → package_of list c (encoded i c fs f) ≡ Some (with_dependencies ds p)
meant-by list i c fs f ds r p references replace same = rw (references, replace, bare-mark_plain i.source) (ap (λ q. Some (with_dependencies ds q)) same)

named : (i : Identity) (c : Option (List ℕ)) (fs : List Reference) (f : Option Reference) (r : Option Identity) (p : PackageData) → alone i c r ≡ p → encoded_identity (encoded i c fs f) ≡ identity_of p
named i c fs f r p same = rw (bare-mark_plain i.source) (ap identity_of same)

abbrev Meant : List Identity → LinedPackage → PackageData → List Identity → EncodedPackage → Type 0
Meant list w p ds e = (package_from w ≡ Some e) × (package_of list e.checksum e ≡ Some (with_dependencies ds p)) × (encoded_identity e ≡ identity_of p)

one : (list : List Identity) (w : LinedPackage) (p : PackageData) (ds : List Identity) → bare_package w ≡ Some p → resolved_words list w ≡ Some ds → (e : EncodedPackage) × Meant list w p ds e
unfolding bare_package resolved_word
one list w p ds bare resolved =
    let i = bind-parts (identity_from w.identity) _ p bare in
    let c = bind-parts (map_some digest_in w.checksum) _ p i.2 in
    let r = bind-parts (map_some (resolved_word []) w.replace) _ p c.2 in
    let same : alone i.0 c.0 r.0 ≡ p = same_Some _ _ r.2 in
    let fs = all-then reference_of (λ f. resolution_of f list) w.dependencies ds resolved in
    let f = some-then reference_of (λ f. resolution_of f []) w.replace r.0 r.1 in
    (encoded i.0 c.0 fs.0 f.0, (from-words w i.0 c.0 fs.0 f.0 i.1 c.1 fs.1 f.1, meant-by list i.0 c.0 fs.0 f.0 ds r.0 p fs.2 f.2 same, named i.0 c.0 fs.0 f.0 r.0 p same))

-- ---- the packages

each : (list : List Identity) (ws : List LinedPackage) (ps : List PackageData) (lists : List (List Identity)) → map_all bare_package ws ≡ Some ps → map_all (resolved_words list) ws ≡ Some lists
    → (es : List EncodedPackage) × (map_all package_from ws ≡ Some es) × (map_all (λ e. package_of list e.checksum e) es ≡ Some (each_with lists ps)) × (map encoded_identity es ≡ map identity_of ps)
each list [] ps lists bare resolved =
    let p : [] ≡ ps = same_Some _ _ bare in
    let l : [] ≡ lists = same_Some _ _ resolved in
    rw (← p, ← l) ([], refl, refl, refl)
each list (w ∷ ws) ps lists bare resolved =
    let p = more-parts (bare_package w) (map_all bare_package ws) ps bare in
    let l = more-parts (resolved_words list w) (map_all (resolved_words list) ws) lists resolved in
    let e = one list w p.0 l.0 p.2 l.2 in
    let rest = each list ws p.1 l.1 p.3 l.3 in
    let both : each_with lists ps ≡ with_dependencies l.0 p.0 ∷ each_with l.1 p.1 = ap (λ a. each_with a ps) l.4 ∙ ap (each_with (l.0 ∷ l.1)) p.4 in (
      e.0 ∷ rest.0,
      all-more package_from w ws e.0 rest.0 (e.0 ∷ rest.0) e.1.0 rest.1 refl,
      all-more (λ e. package_of list e.checksum e) e.0 rest.0 (with_dependencies l.0 p.0) (each_with l.1 p.1) (each_with lists ps) e.1.1 rest.2 both,
      ap (λ i. i ∷ map encoded_identity rest.0) e.1.2 ∙ ap (λ is. identity_of p.0 ∷ is) rest.3 ∙ sym (ap (map identity_of) p.4),
    )

packages-meant : (ws : List LinedPackage) (ps : List PackageData) → resolved_packages ws ≡ Some ps
    → (es : List EncodedPackage) × (map_all package_from ws ≡ Some es) × (map_all (λ e. package_of (map encoded_identity es) e.checksum e) es ≡ Some ps)
unfolding resolved_packages
packages-meant ws ps h =
    let b = bind-parts (map_all bare_package ws) _ ps h in
    let l = bind-parts (map_all (resolved_words (map identity_of b.0)) ws) _ ps b.2 in
    let same : each_with l.0 b.0 ≡ ps = same_Some _ _ l.2 in
    let e = each (map identity_of b.0) ws b.0 l.0 b.1 l.1 in
    (e.0, e.1, subst (λ list. map_all (λ e. package_of list e.checksum e) e.0 ≡ Some ps) (sym e.3) (e.2 ∙ ap Some same))

-- ---- the format

checksums-free : (key any : Bool) (v : ResolveVersion) → v ≢ V1 → format_by_checksums key false ≡ Some v → format_by_checksums key any ≡ Some v
checksums-free true any v other h = absurd (other (sym (same_Some _ _ h)))
checksums-free false any v other h = h

-- the format of packages without a checksum, unless it is V1, is that of any packages
format-free : (number : Option ℤ) (m : Texts) (es : List EncodedPackage) (v : ResolveVersion) → v ≢ V1 → format_by number [] m ≡ Some v → format_by number es m ≡ Some v
format-free (Some z) m es v other h = h
format-free None m es v other h = checksums-free (has_checksum_key m) (has_checksum es) v other h

listed : (v : ResolveVersion) (m : Texts) (es : List EncodedPackage) (ps : List PackageData) → v ≢ V1 → map_all (λ e. package_of (map encoded_identity es) e.checksum e) es ≡ Some ps → all_packages v m es ≡ Some ps
listed V1 m es ps other h = absurd (other refl)
listed V2 m es ps other h = h
listed V3 m es ps other h = h
listed V4 m es ps other h = h

-- ---- the lockfile

abbrev found : ResolveVersion → List PackageData → Texts → List Identity → LockfileData
found v ps m patch = record { version = v; packages = ps; root = None; metadata = m; patch = patch }

pub lockfile-meant : (l : LinedLockfile) (m : Texts) (v : ResolveVersion) (ps : List PackageData) (patch : List Identity) → v ≢ V1 → m ≡ put_all empty l.metadata → format_by l.number [] m ≡ Some v
    → resolved_packages l.packages ≡ Some ps → map_all identity_from l.patches ≡ Some patch
    → meant_by l ≡ Some (found v ps m patch)
unfolding values_from lockfile_of
lockfile-meant l m v ps patch other is format packages patches =
    let e = packages-meant l.packages ps packages in
    rw (e.1, patches, ← is, format-free l.number m e.0 v other format, listed v m e.0 ps other e.2) refl

-- the table of words means what their values mean
pub words-mean : (l : LinedLockfile) → meaning (words_table l) ≡ meant_by l
words-mean l = ap (λ o. o >>= lockfile_of) (words-read l)
