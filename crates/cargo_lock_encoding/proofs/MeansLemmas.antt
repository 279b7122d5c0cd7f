-- The lockfile that a table means, by the relation and as it is computed, is the same.
use Rattle.std.proofs.Common.{◌≡◌, ◌⊎◌, ℕ, List, [], ◌∷◌, inl, inr, map, Option, Some, None, option_map, Result, Ok, Err, refl, sym, subst, ap, ◌∙◌}
use Rattle.std.specs.List.{AllZip}
use Rattle.std.proofs.lemmas.Option.{same_Some, none-some}
use Rattle.toml.specs.Data.{Members}
use Rattle.toml.specs.Parse.{parse_document}
use Rattle.cargo_lock_parts.specs.declared.error.Error.{Error}
use Rattle.cargo_lock_parts.specs.declared.error.Error.TheVariants.{Io, Parse, Version, Resolution, Memory}
use Rattle.cargo_lock_parts.specs.Error.{IsTooLong, Reads, ReadsUrls, Refuses}
use Rattle.cargo_lock_parts.specs.Identity.{Identity, PackageData}
use Rattle.cargo_lock_parts.specs.Source.{Source}
use Rattle.cargo_lock_references.specs.Finds.{Finds, FindsUrls}
use Rattle.cargo_lock_encoding.specs.Lockfiles.{format_of}
use Rattle.cargo_lock_encoding.specs.Means.{IsLocked, IsPackage, Means, TextMeans, encoded_checksum, reading_list}
use Rattle.cargo_lock_encoding.specs.Meaning.{ResolvedData, all_packages, completed_lockfile, listed_package, lockfile_of, meaning, package_of, resolved_values, root_package}
use Rattle.cargo_lock_parts.specs.Optional.{◌>>=◌, BothOrNone, map_all, map_some}
use Rattle.cargo_lock_references.specs.Records.{EncodedPackage, unmarked_source, encoded_identity}
use Rattle.cargo_lock_encoding.specs.Lockfiles.{EncodedData, LockfileData}
use Rattle.cargo_lock_references.specs.Reference.{mark_plain}
use Rattle.cargo_lock_references.specs.ResolutionSearch.{resolution_of}
use Rattle.cargo_lock_references.specs.ResolvesTo.{ResolvesTo}
use Rattle.cargo_lock_encoding.specs.TableReading.{encoded_at}
use Rattle.cargo_lock_references.proofs.ResolvesToLemmas.{ResolvesTo-from, resolution_of-from}
use Rattle.cargo_lock_references.proofs.Walk.{Refuses-by, RefusesUrls-by}

-- ---- lists

pub map_all-from : {X Y : Type 0} (f : X → Option Y) (R : X → Y → Type 0) → ((x : X) (y : Y) → R x y → f x ≡ Some y) → (xs : List X) (ys : List Y) → AllZip R xs ys → map_all f xs ≡ Some ys
map_all-from f R each [] [] h = refl
map_all-from f R each [] (y ∷ ys) h = absurd h
map_all-from f R each (x ∷ xs) [] h = absurd h
map_all-from f R each (x ∷ xs) (y ∷ ys) h = rw (each x y h.0, map_all-from f R each xs ys h.1)

pub more-parts : {Y : Type 0} (o : Option Y) (p : Option (List Y)) (zs : List Y) → (o >>= λ y. option_map (λ ys. y ∷ ys) p) ≡ Some zs → (y : Y) × (ys : List Y) × (o ≡ Some y) × (p ≡ Some ys) × (zs ≡ y ∷ ys)
more-parts None p zs e = absurd (none-some zs e)
more-parts (Some y) None zs e = absurd (none-some zs e)
more-parts (Some y) (Some ys) zs e = (y, ys, refl, refl, sym (same_Some _ _ e))

pub AllZip-from : {X Y : Type 0} (f : X → Option Y) (R : X → Y → Type 0) → ((x : X) (y : Y) → f x ≡ Some y → R x y) → (xs : List X) (ys : List Y) → map_all f xs ≡ Some ys → AllZip R xs ys
AllZip-from f R each [] ys e = let s : [] ≡ ys = same_Some _ _ e in rw (← s) tt
AllZip-from f R each (x ∷ xs) zs e =
    let m = more-parts (f x) (map_all f xs) zs e in
    rw m.4 (each x m.0 m.2, AllZip-from f R each xs m.1 m.3)

-- ---- packages

-- a source that was marked plain, without its mark
pub bare-mark_plain : (s : Option Source) → unmarked_source (option_map mark_plain s) ≡ s
bare-mark_plain None = refl
bare-mark_plain (Some s) = refl

pub bind-parts : {A B : Type 0} (o : Option A) (f : A → Option B) (b : B) → (o >>= f) ≡ Some b → (a : A) × (o ≡ Some a) × (f a ≡ Some b)
bind-parts None f b e = absurd (none-some b e)
bind-parts (Some a) f b e = (a, refl, e)

pub map-parts : {A B : Type 0} (f : A → B) (o : Option A) (b : B) → option_map f o ≡ Some b → (a : A) × (o ≡ Some a) × (f a ≡ b)
map-parts f None b e = absurd (none-some b e)
map-parts f (Some a) b e = (a, refl, same_Some _ _ e)

map_some-from : {X Y : Type 0} (f : X → Option Y) (R : X → Y → Type 0) → ((x : X) (y : Y) → R x y → f x ≡ Some y) → (o : Option X) (p : Option Y) → BothOrNone R o p → map_some f o ≡ Some p
map_some-from f R each None None h = refl
map_some-from f R each None (Some y) h = absurd h
map_some-from f R each (Some x) None h = absurd h
map_some-from f R each (Some x) (Some y) h = rw (each x y h)

some-parts : {Y : Type 0} (o : Option Y) (p : Option Y) → option_map Some o ≡ Some p → (y : Y) × (o ≡ Some y) × (Some y ≡ p)
some-parts None p e = absurd (none-some p e)
some-parts (Some y) p e = (y, refl, same_Some _ _ e)

BothOrNone-from : {X Y : Type 0} (f : X → Option Y) (R : X → Y → Type 0) → ((x : X) (y : Y) → f x ≡ Some y → R x y) → (o : Option X) (p : Option Y) → map_some f o ≡ Some p → BothOrNone R o p
BothOrNone-from f R each None p e = let s : None ≡ p = same_Some _ _ e in rw (← s) tt
BothOrNone-from f R each (Some x) p e = let s = some-parts (f x) p e in rw (← s.2) (each x s.0 s.1)

pub package_of-from : (list : List Identity) (c : Option (List ℕ)) (e : EncodedPackage) (p : PackageData) → IsPackage list c e p → package_of list c e ≡ Some p
package_of-from list c e p h =
    rw (
      map_all-from (λ f. resolution_of f list) (λ f i. ResolvesTo f list i) (λ f i s. resolution_of-from f list i s) e.dependencies p.dependencies h.dependencies,
      map_some-from (λ f. resolution_of f []) (λ f i. ResolvesTo f [] i) (λ f i s. resolution_of-from f [] i s) e.replace p.replace h.replace,
      ← h.name,
      ← h.version,
      ← h.source,
      ← h.checksum,
    )

pub IsPackage-from : (list : List Identity) (c : Option (List ℕ)) (e : EncodedPackage) (p : PackageData) → package_of list c e ≡ Some p → IsPackage list c e p
IsPackage-from list c e p h =
    let d = bind-parts (map_all (λ f. resolution_of f list) e.dependencies) _ p h in
    let r = bind-parts (map_some (λ f. resolution_of f []) e.replace) _ p d.2 in
    let s : ◌≡◌ {A = PackageData} (record { name = e.name; version = e.version; source = unmarked_source e.source; checksum = c; dependencies = d.0; replace = r.0 }) p = same_Some _ _ r.2 in
    rw (← s) (record {
      name = refl;
      version = refl;
      source = refl;
      checksum = refl;
      dependencies = AllZip-from (λ f. resolution_of f list) (λ f i. ResolvesTo f list i) (λ f i q. ResolvesTo-from f list i q) e.dependencies d.0 d.1;
      replace = BothOrNone-from (λ f. resolution_of f []) (λ f i. ResolvesTo f [] i) (λ f i q. ResolvesTo-from f [] i q) e.replace r.0 r.1;
    })

-- ---- lockfiles

pub lockfile_of-from : (e : EncodedData) (l : LockfileData) → IsLocked e l → lockfile_of e ≡ Some l
unfolding lockfile_of
lockfile_of-from e l h =
    rw (
      h.format,
      map_all-from (listed_package l.version (reading_list l.version (map encoded_identity e.packages)) e.metadata) (λ entry p. IsPackage (reading_list l.version (map encoded_identity e.packages)) (encoded_checksum l.version e.metadata entry) entry p) (λ x y s. package_of-from _ _ x y s) e.packages l.packages h.packages,
      map_some-from root_package (λ entry p. IsPackage [] entry.checksum entry p) (λ x y s. package_of-from [] _ x y s) e.root l.root h.root,
      ← h.metadata,
      ← h.patch,
    )

pub IsLocked-from : (e : EncodedData) (l : LockfileData) → lockfile_of e ≡ Some l → IsLocked e l
unfolding lockfile_of
IsLocked-from e l h =
    let w = map-parts (completed_lockfile e) (resolved_values e) l h in
    let v = bind-parts (format_of e) _ w.0 w.1 in
    let ps = bind-parts (all_packages v.0 e.metadata e.packages) _ w.0 v.2 in
    let r = bind-parts (map_some root_package e.root) _ w.0 ps.2 in
    let t : ◌≡◌ {A = ResolvedData} (record { version = v.0; packages = ps.0; root = r.0 }) w.0 = same_Some _ _ r.2 in
    let s : ◌≡◌ {A = LockfileData} (completed_lockfile e (record { version = v.0; packages = ps.0; root = r.0 })) l = ap (completed_lockfile e) t ∙ w.2 in
    rw (← s) (record {
      format = v.1;
      packages = AllZip-from (listed_package v.0 (reading_list v.0 (map encoded_identity e.packages)) e.metadata) (λ entry p. IsPackage (reading_list v.0 (map encoded_identity e.packages)) (encoded_checksum v.0 e.metadata entry) entry p) (λ x y q. IsPackage-from _ _ x y q) e.packages ps.0 ps.1;
      root = BothOrNone-from root_package (λ entry p. IsPackage [] entry.checksum entry p) (λ x y q. IsPackage-from [] _ x y q) e.root r.0 r.1;
      metadata = refl;
      patch = refl;
    })

pub Finds-lockfile_of : (e : EncodedData) (r : Result LockfileData Error) → Reads (λ l. l) r (lockfile_of e) → Finds (IsLocked e) r
Finds-lockfile_of e (Ok l) h = IsLocked-from e l h
Finds-lockfile_of e (Err f) h = Refuses-by f _ _ h (λ none l m. none-some l (sym none ∙ lockfile_of-from e l m))

pub lockfile_of-none : (e : EncodedData) → resolved_values e ≡ None → lockfile_of e ≡ None
unfolding lockfile_of
lockfile_of-none e none = rw none

-- ---- tables

pub meaning-from : (t : Members) (l : LockfileData) → Means t l → meaning t ≡ Some l
meaning-from t l h = rw (h.values, lockfile_of-from h.encoded l h.lockfile_of)

pub Means-from : (t : Members) (l : LockfileData) → meaning t ≡ Some l → Means t l
Means-from t l h =
    let e = bind-parts (encoded_at t) lockfile_of l h in
    record { encoded = e.0; values = e.1; lockfile_of = IsLocked-from e.0 l e.2 }

-- what is computed is what the table means
pub FindsUrls-means : (L : Type 0) (t : Members) (r : Result LockfileData Error) → ReadsUrls L (λ l. l) r (meaning t) → FindsUrls L (Means t) r
FindsUrls-means L t (Ok l) h = Means-from t l h
FindsUrls-means L t (Err e) h = RefusesUrls-by e _ _ _ _ h (λ long. long) (λ none l m. none-some l (sym none ∙ meaning-from t l m))

-- a table means at most one lockfile
pub Means-one : (t : Members) (a b : LockfileData) → Means t a → Means t b → a ≡ b
Means-one t a b p q = same_Some _ _ (sym (meaning-from t a p) ∙ meaning-from t b q)

-- ---- texts

-- the evidence of the table is dropped: that of the text stands in its place
pub FindsUrls-text : (L : Type 0) (text : List ℕ) (t : Members) (r : Result LockfileData Error) → parse_document text ≡ Some t
    → FindsUrls L (Means t) r → FindsUrls (Unit {0}) (TextMeans text) r
FindsUrls-text L text t (Ok l) parsed h = record { table = t; parsed = parsed; means = h }
FindsUrls-text L text t (Err e) parsed h =
    RefusesUrls-by e _ _ _ _ h (λ long. tt) (λ never l m. never l (subst (λ (u : Members). Means u l) (same_Some _ _ (sym m.parsed ∙ parsed)) m.means))

-- a text that is no table means nothing
pub FindsUrls-refused : (text : List ℕ) (e : Error) (P : Type 0) → Refuses e P → (P → parse_document text ≡ None)
    → FindsUrls (Unit {0}) (TextMeans text) (Err e)
FindsUrls-refused text (Io kind) P h f = absurd h
FindsUrls-refused text (Parse message) P h f = inl (λ l m. none-some m.table (sym (f h) ∙ m.parsed))
FindsUrls-refused text (Version fault) P h f = absurd h
FindsUrls-refused text (Resolution message) P h f = absurd h
FindsUrls-refused text Memory P h f = tt

-- ---- refusals for length

-- a fault that is told as out of memory, or is kept, and then for its length only if L holds
pub FindsUrls-kept : (L : Type 0) (P : LockfileData → Type 0) (e kept : Error) → FindsUrls (Unit {0}) P (Err e)
    → (kept ≡ Memory) ⊎ ((kept ≡ e) × (IsTooLong e → L)) → FindsUrls L P (Err kept)
FindsUrls-kept L P e kept h (inl memory) = rw memory tt
FindsUrls-kept L P e kept h (inr same) = rw same.0 (long-by e h same.1)
  where
    long-by : (e : Error) → FindsUrls (Unit {0}) P (Err e) → (IsTooLong e → L) → FindsUrls L P (Err e)
    long-by (Io kind) h told = absurd h
    long-by (Parse message) (inl never) told = inl never
    long-by (Parse message) (inr long) told = inr (long.0, told long.0)
    long-by (Version fault) h told = absurd h
    long-by (Resolution message) h told = absurd h
    long-by Memory h told = tt

-- what is found where no text is long enough
pub Finds-short : (L : Type 0) (P : LockfileData → Type 0) (r : Result LockfileData Error) → ¬ L → FindsUrls L P r → Finds P r
Finds-short L P (Ok l) short h = h
Finds-short L P (Err (Io kind)) short h = absurd h
Finds-short L P (Err (Parse message)) short (inl never) = never
Finds-short L P (Err (Parse message)) short (inr long) = absurd (short long.1)
Finds-short L P (Err (Version fault)) short h = absurd h
Finds-short L P (Err (Resolution message)) short h = absurd h
Finds-short L P (Err Memory) short h = tt
