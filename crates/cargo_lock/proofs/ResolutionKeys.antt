-- What references say is told by keys, and the written form of a dependency reads back exactly where
-- it survives.
use Rattle.std.proofs.Common.{inl, inr, ◌≡◌, ℕ, Bool, true, false, ◌&&◌, List, map, Option, Some, None, IfSome, option_map, refl, sym, subst, ◌∙◌, ap}
use Rattle.std.specs.List.{find}
use Rattle.std.proofs.lemmas.Bool.{cases_Bool, and_parts}
use Rattle.std.proofs.lemmas.Option.{same_Some}
use Rattle.semver.specs.Parse.{Parts}
use Rattle.cargo_lock_parts.specs.Identity.{Identity, IdentityKey, identity_key}
use Rattle.cargo_lock_parts.specs.Source.{MarkedSource, Source, is_path}
use Rattle.cargo_lock_parts.specs.SourceKey.{Key, key_of}
use Rattle.cargo_lock_references.specs.declared.version.ResolveVersion.{ResolveVersion}
use Rattle.cargo_lock_references.specs.declared.version.ResolveVersion.TheVariants.{V1, V2, V3, V4}
use Rattle.cargo_lock_references.specs.WrittenReference.{has_name, written_reference, in_full, is_version_unique, mark, exactly_one, shorten, unless_path, without_source, written_source}
use Rattle.cargo_lock_references.specs.Reference.{Reference, reference_of, reference_text, one_word}
use Rattle.cargo_lock_references.specs.ReferenceOrder.{marked_key}
use Rattle.cargo_lock_references.specs.Records.{unmarked_source}
use Rattle.cargo_lock_references.specs.ResolutionSearch.{fits, has_version, own_words, or_own_words, resolution_of, resolution_by, same_text, with_version}
use Rattle.cargo_lock_references.specs.ReadBack.{ReferenceSurvives}
use Rattle.cargo_lock_encoding.proofs.MeansLemmas.{map-parts}
use Rattle.cargo_lock.proofs.ReferenceTexts.{Agrees, Alike, IsWhole, whole-survives, whole-reads}
use Rattle.cargo_lock_references.proofs.ReadBackLemmas.{resolves-equal}
use Rattle.cargo_lock_references.proofs.ResolvesToLemmas.{find-found, find-map, has_version-yes, same_text-yes}

-- ---- what a form says, of keys alone

abbrev fits_key : List ℕ → Option Parts → IdentityKey → Bool
fits_key name version i = same_text i.name name && has_version version i.version

abbrev key_with : List ℕ → Option Key → Parts → IdentityKey
key_with name source v = record { name = name; version = v; source = source }

abbrev or_key : Option IdentityKey → Option IdentityKey → Option IdentityKey
or_key o None = o
or_key o (Some i) = Some i

abbrev resolution_key : List ℕ → Option Parts → Option Key → List IdentityKey → Option IdentityKey
resolution_key n v (Some k) keys = option_map (key_with n (Some k)) v
resolution_key n v None keys = or_key (option_map (key_with n None) v) (find (fits_key n v) keys)

abbrev source_keys : Option MarkedSource → Option Key
source_keys s = option_map marked_key s

bare-key : (s : Option MarkedSource) → option_map key_of (unmarked_source s) ≡ source_keys s
bare-key None = refl
bare-key (Some s) = refl

own_words-key : (n : List ℕ) (s : Option Source) (v : Option Parts) → option_map identity_key (option_map (with_version n s) v) ≡ option_map (key_with n (option_map key_of s)) v
own_words-key n s None = refl
own_words-key n s (Some v) = refl

or-key : (f : Reference) (o : Option Identity) (r : Option IdentityKey) → option_map identity_key (own_words f) ≡ r → option_map identity_key (or_own_words f o) ≡ or_key r (option_map identity_key o)
or-key f None r e = e
or-key f (Some i) r e = refl

resolution_by-key : (s : Option MarkedSource) (n : List ℕ) (v : Option Parts) (list : List Identity)
    → option_map identity_key (resolution_by s (record { name = n; version = v; source = s }) list) ≡ resolution_key n v (source_keys s) (map identity_key list)
resolution_by-key (Some s) n v list = own_words-key n (Some s.source) v
resolution_by-key None n v list =
    or-key (record { name = n; version = v; source = None }) (find (fits (record { name = n; version = v; source = None })) list) _ (own_words-key n None v)
    ∙ ap (or_key (option_map (key_with n None) v)) (sym (find-map (fits_key n v) identity_key list))

resolution_of-key : (f : Reference) (list : List Identity) → option_map identity_key (resolution_of f list) ≡ resolution_key f.name f.version (source_keys f.source) (map identity_key list)
resolution_of-key f list = resolution_by-key f.source f.name f.version list

-- forms that are alike say equal identities in equal lists
resolution_of-alike : (f g : Reference) (list other : List Identity) → Alike f g → map identity_key other ≡ map identity_key list
    → option_map identity_key (resolution_of g other) ≡ option_map identity_key (resolution_of f list)
resolution_of-alike f g list other a e =
    resolution_of-key g other
    ∙ (λ i. resolution_key (a.name i) (a.version i) (a.source i) (e i))
    ∙ sym (resolution_of-key f list)

-- ---- what a form that says something has

record ResolvesToKey (n : List ℕ) (v : Option Parts) (k : Option Key) (i : IdentityKey) : Type 0 where
  pub name : n ≡ i.name
  pub version : IfSome v (λ w. w ≡ i.version)
  pub source : IfSome k (λ x. Some x ≡ i.source)

resolves-own_words : (n : List ℕ) (k : Option Key) (v : Option Parts) (i : IdentityKey) → option_map (key_with n k) v ≡ Some i → ResolvesToKey n v k i
resolves-own_words n k v i e = let p = map-parts (key_with n k) v i e in by v p.0 p.1 p.2
  where
    some : (o : Option Key) → IfSome o (λ x. Some x ≡ o)
    some None = tt
    some (Some x) = refl

    by : (v : Option Parts) (w : Parts) → v ≡ Some w → key_with n k w ≡ i → ResolvesToKey n v k i
    by v w is e = rw (is, ← e) (record { name = refl; version = refl; source = some k })

fit-parts : (a b : List ℕ) (o : Option Parts) (v : Parts) → (same_text a b && has_version o v) ≡ true → (a ≡ b) × IfSome o (λ w. v ≡ w)
fit-parts a b o v h = let (x, y) = and_parts _ _ h in (same_text-yes a b x, has_version-yes o v y)

resolves-found : (n : List ℕ) (v : Option Parts) (keys : List IdentityKey) (o : Option IdentityKey) (i : IdentityKey) → find (fits_key n v) keys ≡ o → or_key (option_map (key_with n None) v) o ≡ Some i → ResolvesToKey n v None i
resolves-found n v keys None i is e = resolves-own_words n None v i e
resolves-found n v keys (Some x) i is e =
    let s : x ≡ i = same_Some x i e in
    let p = fit-parts i.name n v i.version (find-found (fits_key n v) keys i (is ∙ ap Some s)).2 in
    record { name = sym p.0; version = turned v p.1; source = tt }
  where
    turned : (v : Option Parts) → IfSome v (λ w. i.version ≡ w) → IfSome v (λ w. w ≡ i.version)
    turned None h = tt
    turned (Some w) h = sym h

resolves-key : (n : List ℕ) (v : Option Parts) (k : Option Key) (keys : List IdentityKey) (i : IdentityKey) → resolution_key n v k keys ≡ Some i → ResolvesToKey n v k i
resolves-key n v (Some k) keys i e = resolves-own_words n (Some k) v i e
resolves-key n v None keys i e = resolves-found n v keys _ i refl e

-- ---- the form that is chosen

-- it takes its parts from the identity
pub record IsOf (f : Reference) (d : Identity) : Type 0 where
  pub name : f.name ≡ d.name
  pub version : IfSome f.version (λ v. v ≡ d.version)
  pub source : IfSome f.source (λ m. Some (marked_key m) ≡ option_map key_of d.source)
  pub whole : IsWhole f.version f.source

written-of : (escaped : Bool) (s : Option Source) → IfSome (written_source escaped s) (λ m. Some (marked_key m) ≡ option_map key_of s)
written-of escaped None = tt
written-of escaped (Some s) = by (is_path s.kind)
  where
    by : (path : Bool) → IfSome (option_map (mark escaped) (unless_path path s)) (λ m. Some (marked_key m) ≡ Some (key_of s))
    by true = tt
    by false = refl

after-version : (v : Parts) (s : Option MarkedSource) → IsWhole (Some v) s
after-version v None = tt
after-version v (Some s) = tt

pub in_full-of : (escaped : Bool) (d : Identity) → IsOf (in_full escaped d) d
in_full-of escaped d = record { name = refl; version = refl; source = written-of escaped d.source; whole = after-version d.version (written_source escaped d.source) }

one_word-of : (d : Identity) → IsOf (one_word d.name) d
one_word-of d = record { name = refl; version = tt; source = tt; whole = tt }

without_source-of : (escaped : Bool) (d : Identity) → IsOf (without_source (in_full escaped d)) d
without_source-of escaped d = record { name = refl; version = refl; source = tt; whole = tt }

shorten-of : (escaped : Bool) (list : List Identity) (d : Identity) → IsOf (shorten list (in_full escaped d)) d
unfolding shorten
shorten-of escaped list d = elim (cases_Bool (exactly_one (has_name d.name) list)) [
  | inl hit ↦ rw hit (one_word-of d)
  | inr miss ↦ rw miss (elim (cases_Bool (is_version_unique list d.name (Some d.version))) [
    | inl both ↦ rw both (without_source-of escaped d)
    | inr none ↦ rw none (in_full-of escaped d)
  ])
]

pub written_reference-of : (format : ResolveVersion) (list : List Identity) (d : Identity) → IsOf (written_reference format list d) d
unfolding written_reference
written_reference-of V1 list d = in_full-of false d
written_reference-of V2 list d = shorten-of false list d
written_reference-of V3 list d = shorten-of false list d
written_reference-of V4 list d = shorten-of true list d

-- ---- a reference survives exactly where it reads back

pub record ReferenceReads (f : Reference) (list : List Identity) (d : Identity) (g : Reference) : Type 0 where
  pub read : reference_of (reference_text f) ≡ Some g
  pub resolves : option_map identity_key (resolution_of g list) ≡ Some (identity_key d)

agreeing : (f g : Reference) (d : Identity) → IsOf f d → ResolvesToKey g.name g.version (source_keys g.source) (identity_key d) → Agrees f g
agreeing f g d of s = record {
  name = s.name ∙ sym of.name;
  version = versions f.version g.version of.version s.version;
  source = sources f.source g.source of.source s.source;
}
  where
    versions : (v w : Option Parts) → IfSome v (λ x. x ≡ d.version) → IfSome w (λ x. x ≡ d.version) → IfSome v (λ x. IfSome w (λ y. y ≡ x))
    versions None w h k = tt
    versions (Some v) None h k = tt
    versions (Some v) (Some w) h k = k ∙ sym h

    sources : (s r : Option MarkedSource) → IfSome s (λ x. Some (marked_key x) ≡ option_map key_of d.source) → IfSome (source_keys r) (λ x. Some x ≡ option_map key_of d.source) → IfSome s (λ x. IfSome r (λ y. marked_key y ≡ marked_key x))
    sources None r h k = tt
    sources (Some s) None h k = tt
    sources (Some s) (Some r) h k = same_Some _ _ (k ∙ sym h)

pub reference-survives : (f g : Reference) (list other : List Identity) (d : Identity) → IsOf f d → map identity_key other ≡ map identity_key list
    → ReferenceReads f other d g → ReferenceSurvives f list d
reference-survives f g list other d of same h =
    let resolves = resolves-key g.name g.version (source_keys g.source) (map identity_key other) (identity_key d) (sym (resolution_of-key g other) ∙ h.resolves) in
    let made = whole-survives f g of.whole h.read (agreeing f g d of resolves) in
    let r = whole-reads f of.whole made in
    let one : r.0 ≡ g = same_Some _ _ (sym r.1 ∙ h.read) in
    record { written = made; resolves = (resolves-equal f list d).1 (sym (resolution_of-alike f g list other (subst (Alike f) one r.2) same) ∙ h.resolves) }

pub reference-reads : (f : Reference) (list : List Identity) (d : Identity) → IsOf f d → ReferenceSurvives f list d
    → (g : Reference) × (reference_of (reference_text f) ≡ Some g) × ((other : List Identity) → map identity_key other ≡ map identity_key list → option_map identity_key (resolution_of g other) ≡ Some (identity_key d))
reference-reads f list d of h =
    let r = whole-reads f of.whole h.written in
    (r.0, r.1, λ other same. resolution_of-alike f r.0 list other r.2 same ∙ (resolves-equal f list d).0 h.resolves)
