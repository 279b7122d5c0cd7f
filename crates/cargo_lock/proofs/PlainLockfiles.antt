-- Plain lockfiles survive V2, V3 and V4.
use Rattle.std.proofs.Common.{◌≡◌, inl, inr, ℕ, zero, suc, Bool, true, false, cond, not, List, [], ◌∷◌, length, map, Option, Some, None, IfSome, option_map, slice_get, refl, ap, ◌∙◌, sym, subst, arith, true≢false}
use Rattle.std.specs.Cmp.Lexicographic.{slice_cmp}
use Rattle.std.specs.FinMap.{empty, entries, get-empty, len-empty, len-entries, retain_keys}
use Rattle.std.specs.Ordering.{nat_cmp}
use Rattle.std.specs.List.{AllByRecursion, list_any}
use Rattle.std.proofs.lemmas.Bool.{cases_Bool, and_parts}
use Rattle.std.proofs.lemmas.Bool.Decides.{Decides-eqb}
use Rattle.std.proofs.lemmas.Option.{same_Some, none-some}
use Rattle.semver.specs.Parse.{Parts}
use Rattle.semver.specs.Identifiers.{parts_text}
use Rattle.cargo_lock_parts.specs.Identity.{Identity, IdentityKey, PackageData, identity_key, identity_of}
use Rattle.cargo_lock_parts.specs.Source.{Kind, Source, Git, Path, Registry, SparseRegistry, LocalRegistry, Directory, is_path, is_registry}
use Rattle.cargo_lock_parts.specs.SourceKey.{key_of}
use Rattle.cargo_lock_parts.specs.SourceReading.{source_of}
use Rattle.cargo_lock_parts.specs.SourceText.{text_by_kind, text_of}
use Rattle.cargo_lock_references.specs.declared.version.ResolveVersion.{ResolveVersion}
use Rattle.cargo_lock_references.specs.declared.version.ResolveVersion.TheVariants.{V1, V2, V3, V4}
use Rattle.cargo_lock_references.specs.WrittenReference.{has_name_and_version, has_name, written_reference, in_full, exactly_one, shorten}
use Rattle.cargo_lock_references.specs.Metadata.{has_checksum_key, has_key, is_checksum, metadata_of, without_checksums}
use Rattle.cargo_lock.specs.Plain.{HasNoTwins, IsPlain, IsPlainPackage, IsPlainSource}
use Rattle.cargo_lock_encoding.specs.Lockfiles.{LockfileData}
use Rattle.cargo_lock_references.specs.Records.{Texts, is_escaped}
use Rattle.cargo_lock.specs.Shortest.{IsAmong}
use Rattle.cargo_lock_encoding.specs.Survives.{ListedSurvives, FormatSurvives, OwnPartsSurvive, RootSurvives, Survives}
use Rattle.cargo_lock_references.specs.ReadBack.{ReferenceSurvives, SourceSurvives, VersionSurvives}
use Rattle.cargo_lock_references.specs.Words.{IsWord}
use Rattle.cargo_lock_references.proofs.WrittenReferenceLemmas.{exactly_one-place}
use Rattle.cargo_lock_references.proofs.ResolvesToLemmas.{same_parts-refl, same_parts-yes, same_text-refl, same_text-yes}
use Rattle.cargo_lock.proofs.ShortestWords.{name-names, version-names}
use Rattle.cargo_lock_references.proofs.Texts.{same_texts}
use Rattle.cargo_lock.proofs.WrittenAgain.{get-kept}
use Rattle.std.proofs.lemmas.List.Sorted.{IsPermutation-refl}

-- ---- references

-- what a listed identity is written by
pub record IsSound (d : Identity) : Type 0 where
  pub name : IsWord d.name
  pub word : IsWord (parts_text d.version)
  pub version : VersionSurvives d.version

-- the place of an identity that is among the list is the only one with its name and version
exactly_one-both : (list : List Identity) (d : Identity) → HasNoTwins list → IsAmong list d → exactly_one (has_name_and_version d.name d.version) list ≡ true
exactly_one-both list d apart among =
    let i = among.1 in
    let name : i.name ≡ d.name = ap (λ (k : IdentityKey). k.name) among.3 in
    let version : i.version ≡ d.version = ap (λ (k : IdentityKey). k.version) among.3 in
    let hit : has_name_and_version d.name d.version i ≡ true = rw (name, version, same_text-refl d.name) (same_parts-refl d.version) in
    (Decides-eqb _ _).1 (exactly_one-place (has_name_and_version d.name d.version) list among.0 i among.2 hit (λ j y there pass.
    let p = and_parts _ _ pass in
    apart j among.0 y i there among.2 (same_text-yes _ _ p.0 ∙ sym name) (same_parts-yes _ _ p.1 ∙ sym version)))

shorten-survives : (escaped : Bool) (list : List Identity) (d : Identity) → HasNoTwins list → IsAmong list d → IsSound d → ReferenceSurvives (shorten list (in_full escaped d)) list d
unfolding shorten
shorten-survives escaped list d apart among sound = elim (cases_Bool (exactly_one (has_name d.name) list)) [
  | inl hit ↦ rw hit (record {
    written = record { name = sound.name; version = tt; source = tt };
    resolves = name-names list d among hit list (IsPermutation-refl list);
  })
  | inr miss ↦ let both = exactly_one-both list d apart among in rw (miss, both) (record {
    written = record { name = sound.name; version = (sound.word, sound.version); source = tt };
    resolves = version-names escaped list d among both list (IsPermutation-refl list);
  })
]

-- ---- sources

plain-text : (escaped : Bool) (k : Kind) (u : List ℕ) (p : Option (List ℕ)) → is_registry k ≡ true → text_by_kind false k u p ≡ text_by_kind escaped k u p
plain-text escaped (Git r) u p h = absurd (true≢false (sym h))
plain-text escaped Path u p h = absurd (true≢false (sym h))
plain-text escaped Registry u p h = refl
plain-text escaped SparseRegistry u p h = refl
plain-text escaped LocalRegistry u p h = refl
plain-text escaped Directory u p h = refl

same-text : (escaped : Bool) (s : Source) → is_registry s.kind ≡ true → text_of false s ≡ text_of escaped s
unfolding text_of
same-text escaped s h = plain-text escaped s.kind _ s.precise h

pub no_path : (k : Kind) → is_registry k ≡ true → is_path k ≡ false
no_path (Git r) h = refl
no_path Path h = absurd (true≢false (sym h))
no_path Registry h = refl
no_path SparseRegistry h = refl
no_path LocalRegistry h = refl
no_path Directory h = refl

plain-source : (escaped : Bool) (s : Source) → IsPlainSource s → SourceSurvives escaped s
plain-source escaped s h = (no_path s.kind h.registry, subst (λ (t : List ℕ). option_map key_of (source_of t) ≡ Some (key_of s)) (same-text escaped s h.registry) h.back)

pub plain-sources : (escaped : Bool) (s : Option Source) → IfSome s IsPlainSource → IfSome s (SourceSurvives escaped)
plain-sources escaped None h = tt
plain-sources escaped (Some s) h = plain-source escaped s h

-- ---- packages

pub listed-at : (P : PackageData → Type 0) (ps : List PackageData) (k : ℕ) (i : Identity) → AllByRecursion P ps → slice_get (map identity_of ps) k ≡ Some i → (p : PackageData) × P p × (identity_of p ≡ i)
listed-at P [] k i h at = absurd (none-some i at)
listed-at P (p ∷ ps) zero i h at = (p, h.0, same_Some _ _ at)
listed-at P (p ∷ ps) (suc k) i h at = listed-at P ps k i h.1 at

pub sound-listed : (list : List Identity) (ps : List PackageData) (d : Identity) → AllByRecursion (IsPlainPackage list) ps → IsAmong (map identity_of ps) d → IsSound d
sound-listed list ps d h among =
    let a = listed-at (IsPlainPackage list) ps among.0 among.1 h among.2 in
    let key : identity_key (identity_of a.0) ≡ identity_key d = ap identity_key a.2 ∙ among.3 in
    let version : a.0.version ≡ d.version = ap (λ (k : IdentityKey). k.version) key in
    record {
      name = subst IsWord (ap (λ (k : IdentityKey). k.name) key) a.1.name;
      word = subst (λ (v : Parts). IsWord (parts_text v)) version a.1.word;
      version = subst VersionSurvives version a.1.version;
    }

none-replaced : (P : Identity → Type 0) (o : Option Identity) → o ≡ None → IfSome o P
none-replaced P o e = rw e tt

pub own-parts : (format : ResolveVersion) (list : List Identity) (p : PackageData) → IsPlainPackage list p → OwnPartsSurvive format p
own-parts format list p h = record {
  version = h.version;
  source = plain-sources (is_escaped format) p.source h.source;
  replace = none-replaced _ p.replace h.replace;
}

references-survive : (escaped : Bool) (list : List Identity) → HasNoTwins list → ((d : Identity) → IsAmong list d → IsSound d)
    → (ds : List Identity) → AllByRecursion (IsAmong list) ds → AllByRecursion (λ d. ReferenceSurvives (shorten list (in_full escaped d)) list d) ds
references-survive escaped list apart sound [] h = tt
references-survive escaped list apart sound (d ∷ ds) h =
    (shorten-survives escaped list d apart h.0 (sound d h.0), references-survive escaped list apart sound ds h.1)

entry-survives : (format : ResolveVersion) (list : List Identity) (m : Texts) → HasNoTwins list → ((d : Identity) → IsAmong list d → IsSound d)
    → (p : PackageData) → IsPlainPackage list p → (format ≡ V1 → ⊥) → ListedSurvives format list m p
unfolding written_reference
entry-survives V1 list m apart sound p h later = absurd (later refl)
entry-survives V2 list m apart sound p h later = (record { own = own-parts V2 list p h; dependencies = references-survive false list apart sound p.dependencies h.dependencies }, h.checksum)
entry-survives V3 list m apart sound p h later = (record { own = own-parts V3 list p h; dependencies = references-survive false list apart sound p.dependencies h.dependencies }, h.checksum)
entry-survives V4 list m apart sound p h later = (record { own = own-parts V4 list p h; dependencies = references-survive true list apart sound p.dependencies h.dependencies }, h.checksum)

entries-survive : (format : ResolveVersion) (list : List Identity) (m : Texts) → HasNoTwins list → ((d : Identity) → IsAmong list d → IsSound d) → (format ≡ V1 → ⊥)
    → (ps : List PackageData) → AllByRecursion (IsPlainPackage list) ps → AllByRecursion (ListedSurvives format list m) ps
entries-survive format list m apart sound later [] h = tt
entries-survive format list m apart sound later (p ∷ ps) h =
    (entry-survives format list m apart sound p h.0 later, entries-survive format list m apart sound later ps h.1)

-- a lockfile with nothing but packages
pub shown : (format : ResolveVersion) (l : LockfileData) → IsPlain l → AllByRecursion (ListedSurvives format (map identity_of l.packages) (metadata_of format l.metadata l.packages)) l.packages
    → FormatSurvives format (metadata_of format l.metadata l.packages) → Survives l format
shown format l h ps told = record { packages = ps; root = none-root l.root h.root; patch = rw h.patch tt; told = told }
  where
    none-root : (o : Option PackageData) → o ≡ None → IfSome o (RootSurvives format)
    none-root o e = rw e tt

plain-later : (format : ResolveVersion) (l : LockfileData) → IsPlain l → (format ≡ V1 → ⊥) → FormatSurvives format (metadata_of format l.metadata l.packages) → Survives l format
plain-later format l h later told =
    let list = map identity_of l.packages in
    shown format l h (entries-survive format list (metadata_of format l.metadata l.packages) h.no_twins (λ d at. sound-listed list l.packages d h.packages at) later l.packages h.packages) told

-- the metadata of a plain lockfile stay empty from V2 on
nothing-kept : (p : List ℕ → Bool) → ◌≡◌ {A = Texts} (retain_keys empty p) empty
nothing-kept p = same_texts _ _ (λ q.
    get-kept empty p q ∙ ap (λ o. cond (p q) o None) (get-empty (slice_cmp nat_cmp) q) ∙ none-still (p q) ∙ sym (get-empty (slice_cmp nat_cmp) q))
  where
    none-still : (b : Bool) → ◌≡◌ {A = Option (List ℕ)} (cond b None None) None
    none-still true = refl
    none-still false = refl

no_length : {X : Type 0} (xs : List X) → length xs ≡ 0 → xs ≡ []
no_length [] e = refl
no_length (x ∷ xs) e = absurd (omega arith)

abbrev nothing : Texts
nothing = empty

no_entries : entries nothing ≡ []
no_entries = no_length (entries nothing) (sym (len-entries nothing) ∙ len-empty (slice_cmp nat_cmp) (List ℕ))

no_key : has_checksum_key nothing ≡ false
unfolding has_checksum_key
no_key = ap (λ (es : List (List ℕ × List ℕ)). list_any (λ e. is_checksum e.0) es) no_entries

no-checksum_key : (l : LockfileData) → l.metadata ≡ empty → has_checksum_key (without_checksums l.metadata l.packages) ≡ false
unfolding without_checksums
no-checksum_key l e =
    ap (λ (m : Texts). has_checksum_key (retain_keys m (λ k. not (list_any (has_key k) l.packages)))) e
    ∙ ap has_checksum_key (nothing-kept (λ k. not (list_any (has_key k) l.packages)))
    ∙ no_key

second-not_first : V2 ≡ V1 → ⊥
second-not_first e = cc

third-not_first : V3 ≡ V1 → ⊥
third-not_first e = cc

fourth-not_first : V4 ≡ V1 → ⊥
fourth-not_first e = cc

pub plain-second : (l : LockfileData) → IsPlain l → Survives l V2
plain-second l h = plain-later V2 l h second-not_first (no-checksum_key l h.metadata)

pub plain-third : (l : LockfileData) → IsPlain l → Survives l V3
plain-third l h = plain-later V3 l h third-not_first tt

pub plain-fourth : (l : LockfileData) → IsPlain l → Survives l V4
plain-fourth l h = plain-later V4 l h fourth-not_first tt
