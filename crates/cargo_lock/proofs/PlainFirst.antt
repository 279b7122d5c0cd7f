-- Plain lockfiles with a checksum survive V1.
use Rattle.std.proofs.Common.{◌≡◌, ◌≢◌, ◌⊎◌, inl, inr, ℕ, zero, suc, Bool, true, false, cond, ◌&&◌, ◌||◌, List, [], ◌∷◌, ◌++◌, drop, map, Option, Some, None, IfSome, is_some, option_map, Result, Ok, Err, slice_get, codes, refl, ap, ◌∙◌, sym, subst, arith, append_assoc, true≢false}
use Rattle.std.specs.Cmp.Lexicographic.{slice_cmp, nat_list_cmp_total}
use Rattle.std.specs.FinMap.{empty, entries, find, get, get-empty, get-entries}
use Rattle.std.specs.List.{AllByRecursion, list_any}
use Rattle.std.specs.Cmp.{Equal-is}
use Rattle.std.specs.Ordering.{eq_by_cmp, nat_cmp}
use Rattle.std.specs.Result.{result_ok}
use Rattle.std.specs.declared.cmp.Ordering.TheVariants.{Less, Equal}
use Rattle.std.proofs.lemmas.Bool.{cases_Bool, and_parts}
use Rattle.std.proofs.lemmas.Cmp.{tied_itself}
use Rattle.std.proofs.lemmas.Option.{same_Some, none-some}
use Rattle.semver.specs.Parse.{Parts}
use Rattle.semver.specs.Identifiers.{parts_text}
use Rattle.cargo_lock_parts.specs.Checksum.{digest_text}
use Rattle.cargo_lock_parts.specs.Identity.{Identity, IdentityKey, PackageData, dependency_text, identity_of, source_part as brackets}
use Rattle.cargo_lock_parts.specs.Source.{MarkedSource, Source, is_path, is_registry}
use Rattle.cargo_lock_parts.specs.SourceKey.{Key, key_of}
use Rattle.cargo_lock_parts.specs.SourceReading.{source_of}
use Rattle.cargo_lock_parts.specs.SourceText.{marked_text, text_by_kind, text_of}
use Rattle.cargo_lock_references.specs.declared.version.ResolveVersion.TheVariants.{V1}
use Rattle.cargo_lock_references.specs.WrittenReference.{written_reference, in_full, mark, unless_path}
use Rattle.cargo_lock_references.specs.Reference.{Reference, Refusal, reference_or_refusal, reference_text, mark_plain, marked_source_part}
use Rattle.cargo_lock_references.specs.LeastKey.{IsAtLeastKey}
use Rattle.cargo_lock_references.specs.Metadata.{checksum_in, checksum_key, has_checksum_key, is_checksum, is_named, key_identity, key_or_refusal, metadata_of, reads_as}
use Rattle.cargo_lock.specs.Plain.{HasNoTwins, HasSomeChecksum, IsPlain, IsPlainPackage, IsPlainSource, PlainSurvives}
use Rattle.cargo_lock_encoding.specs.Lockfiles.{LockfileData}
use Rattle.cargo_lock_references.specs.Records.{Texts, unmarked_source}
use Rattle.cargo_lock_references.specs.ResolutionSearch.{same_parts, same_text}
use Rattle.cargo_lock.specs.Shortest.{IsAmong}
use Rattle.cargo_lock_references.specs.ReadBack.{DigestReadsBack, ReferenceSurvives, SourceTextReadsBack, VersionSurvives}
use Rattle.cargo_lock_encoding.specs.Survives.{ListedSurvives, Survives}
use Rattle.cargo_lock_references.specs.Words.{IsDense, IsWord}
use Rattle.cargo_lock_references.specs.WrittenMetadata.{HasChecksumAt, HasNoChecksum}
use Rattle.cargo_lock.proofs.KeyTexts.{text_of-key}
use Rattle.cargo_lock_references.proofs.LeastKeys.{checksum_at_least_key}
use Rattle.cargo_lock.proofs.PlainLockfiles.{IsSound, listed-at, no_path, own-parts, plain-fourth, plain-second, plain-third, shown, sound-listed}
use Rattle.cargo_lock.proofs.ReferenceTexts.{IsWhole, whole-reads}
use Rattle.cargo_lock_references.proofs.ResolvesToLemmas.{ResolvesTo-from, same_parts-refl, same_parts-yes, same_text-refl, same_text-yes}
use Rattle.cargo_lock.proofs.ShortestReferences.{all-at, map-at}
use Rattle.cargo_lock_references.proofs.Texts.{texts_tie}
use Rattle.cargo_lock_references.proofs.WrittenMetadata.{checksums_at_keys}

-- ---- references in full

plain-by_key : (r s : Source) → key_of r ≡ key_of s → IsPlainSource r → IsPlainSource s
plain-by_key r s e h =
    let text : text_of false r ≡ text_of false s = text_of-key false r ∙ ap (λ (k : Key). text_by_kind false k.kind k.url k.precise) e ∙ sym (text_of-key false s) in
    record {
      registry = ap (λ (k : Key). is_registry k.kind) (sym e) ∙ h.registry;
      dense = subst IsDense text h.dense;
      back = ap (λ (t : List ℕ). option_map key_of (source_of t)) (sym text) ∙ h.back ∙ ap Some e;
    }

plain-listed : (o p : Option Source) → option_map key_of o ≡ option_map key_of p → IfSome o IsPlainSource → IfSome p IsPlainSource
plain-listed o None e h = tt
plain-listed None (Some s) e h = absurd (none-some (key_of s) e)
plain-listed (Some r) (Some s) e h = plain-by_key r s (same_Some _ _ e) h

listed-source : (list : List Identity) (ps : List PackageData) (d : Identity) → AllByRecursion (IsPlainPackage list) ps → IsAmong (map identity_of ps) d → IfSome d.source IsPlainSource
listed-source list ps d h among =
    let a = listed-at (IsPlainPackage list) ps among.0 among.1 h among.2 in
    plain-listed a.0.source d.source (ap (λ (i : Identity). option_map key_of i.source) a.2 ∙ ap (λ (k : IdentityKey). k.source) among.3) a.1.source

abbrev full_reference : List ℕ → Parts → Bool → Source → Reference
full_reference n v path s = record { name = n; version = Some v; source = option_map (mark false) (unless_path path s) }

full-sourced : (n : List ℕ) (v : Parts) (s : Source) (path : Bool) → path ≡ false → IsWord n → IsWord (parts_text v) × VersionSurvives v → IsPlainSource s
    → ReferenceSurvives (full_reference n v path s) [] (record { name = n; version = v; source = Some s })
full-sourced n v s true off name version h = absurd (true≢false off)
full-sourced n v s false off name version h = record {
  written = record { name = name; version = version; source = (h.dense, h.back) };
  resolves = (record { name = n; version = v; source = Some s }, ResolvesTo-from (full_reference n v false s) [] (record { name = n; version = v; source = Some s }) refl, refl);
}

full-by : (n : List ℕ) (v : Parts) (o : Option Source) → IsWord n → IsWord (parts_text v) × VersionSurvives v → IfSome o IsPlainSource
    → ReferenceSurvives (in_full false (record { name = n; version = v; source = o })) [] (record { name = n; version = v; source = o })
full-by n v None name version h = record {
  written = record { name = name; version = version; source = tt };
  resolves = (
    record { name = n; version = v; source = None },
    ResolvesTo-from (in_full false (record { name = n; version = v; source = None })) [] (record { name = n; version = v; source = None }) refl,
    refl,
  );
}
full-by n v (Some s) name version h = full-sourced n v s (is_path s.kind) (no_path s.kind h.registry) name version h

full-survives : (d : Identity) → IsSound d → IfSome d.source IsPlainSource → ReferenceSurvives (in_full false d) [] d
full-survives d sound h = full-by d.name d.version d.source sound.name (sound.word, sound.version) h

all-full : (list : List Identity) (ps : List PackageData) → AllByRecursion (IsPlainPackage list) ps → (ds : List Identity) → AllByRecursion (IsAmong (map identity_of ps)) ds
    → AllByRecursion (λ d. ReferenceSurvives (in_full false d) [] d) ds
all-full list ps h [] at = tt
all-full list ps h (d ∷ ds) at =
    (full-survives d (sound-listed list ps d h at.0) (listed-source list ps d h at.0), all-full list ps h ds at.1)

-- ---- what a checksum key reads as

abbrev key_reference : PackageData → Reference
key_reference q = record { name = q.name; version = Some q.version; source = option_map mark_plain q.source }

plain-parts : (o : Option Source) → IfSome o IsPlainSource → IfSome (option_map mark_plain o) (λ m. IsDense (marked_text m) × SourceTextReadsBack m)
plain-parts None h = tt
plain-parts (Some s) h = (h.dense, h.back)

whole : (v : Parts) (o : Option MarkedSource) → IsWhole (Some v) o
whole v None = tt
whole v (Some m) = tt

brackets-plain : (o : Option Source) → brackets o ≡ marked_source_part (option_map mark_plain o)
brackets-plain None = refl
brackets-plain (Some s) = refl

key-text : (q : PackageData) → dependency_text (identity_of q) ≡ reference_text (key_reference q)
unfolding reference_text
key-text q =
    ap (λ (t : List ℕ). t ++ brackets q.source) (append_assoc q.name (codes " ") (parts_text q.version))
    ∙ ap (λ (t : List ℕ). (q.name ++ (codes " " ++ parts_text q.version)) ++ t) (brackets-plain q.source)

begins : (q : PackageData) → is_checksum (checksum_key (identity_of q)) ≡ true
unfolding is_checksum checksum_key
begins q = refl

after-key : (q : PackageData) → drop 9 (checksum_key (identity_of q)) ≡ dependency_text (identity_of q)
unfolding checksum_key
after-key q = refl

ok-is : (r : Result Reference Refusal) (f : Reference) → result_ok r ≡ Some f → r ≡ Ok f
ok-is (Ok g) f e = ap Ok (same_Some g f e)
ok-is (Err e) f h = absurd (none-some f h)

-- the key of a plain package reads as its name and version
record KeyReads (q : PackageData) : Type 0 where
  identity : Identity
  reads : key_identity (checksum_key (identity_of q)) ≡ Some identity
  name : identity.name ≡ q.name
  version : identity.version ≡ q.version

from-reference : (q : PackageData) (g : Reference) → g.name ≡ q.name → g.version ≡ Some q.version → reference_or_refusal (drop 9 (checksum_key (identity_of q))) ≡ Ok g → KeyReads q
unfolding key_or_refusal
from-reference q g name version read =
    let i : Identity = record { name = g.name; version = q.version; source = unmarked_source g.source } in
    record {
      identity = i;
      reads = rw (begins q, read, version) refl;
      name = name;
      version = refl;
    }

key-reads : (list : List Identity) (q : PackageData) → IsPlainPackage list q → KeyReads q
key-reads list q h =
    let r = whole-reads (key_reference q) (whole q.version (option_map mark_plain q.source)) (record { name = h.name; version = (h.word, h.version); source = plain-parts q.source h.source }) in
    let text : drop 9 (checksum_key (identity_of q)) ≡ reference_text (key_reference q) = after-key q ∙ key-text q in
    from-reference q r.0 r.2.name r.2.version (ap reference_or_refusal text ∙ ok-is (reference_or_refusal (reference_text (key_reference q))) r.0 r.1)

-- whether the key reads as a name and a version
key-named : (list : List Identity) (q : PackageData) (name : List ℕ) (version : Parts) → IsPlainPackage list q
    → reads_as name version (checksum_key (identity_of q)) ≡ (same_text q.name name && same_parts q.version version)
key-named list q name version h =
    let r = key-reads list q h in
    ap (is_named name version) r.reads ∙ (λ i. same_text (r.name i) name && same_parts (r.version i) version)

-- ---- one package for a name and a version

abbrev IsAt : List PackageData → ℕ → PackageData → Type 0
IsAt ps k p = slice_get ps k ≡ Some p

one-place : (ps : List PackageData) → HasNoTwins (map identity_of ps) → (j k : ℕ) (p q : PackageData) → IsAt ps j p → IsAt ps k q → p.name ≡ q.name → p.version ≡ q.version → j ≡ k
one-place ps apart j k p q here there name version =
    apart j k (identity_of p) (identity_of q) (map-at identity_of ps j p here) (map-at identity_of ps k q there) name version

one-package : (ps : List PackageData) → HasNoTwins (map identity_of ps) → (j k : ℕ) (p q : PackageData) → IsAt ps j p → IsAt ps k q → p.name ≡ q.name → p.version ≡ q.version → p ≡ q
one-package ps apart j k p q here there name version =
    same_Some p q (sym here ∙ ap (slice_get ps) (one-place ps apart j k p q here there name version) ∙ there)

-- ---- the written metadata of a plain lockfile

-- some package has the key and a checksum, or none has
abbrev Owner : List PackageData → List ℕ → Type 0
Owner ps key = (j : ℕ) × (q : PackageData) × (digest : List ℕ) × IsAt ps j q × HasChecksumAt key q digest

same-key : (p : PackageData) (key : List ℕ) → (checksum_key (identity_of p) ≡ key) ⊎ (checksum_key (identity_of p) ≢ key)
same-key p key = elim (cases_Bool (same_text (checksum_key (identity_of p)) key)) [
  | inl hit ↦ inl (same_text-yes _ _ hit)
  | inr miss ↦ inr (λ e. true≢false (sym (same_text-refl key) ∙ ap (λ k. same_text k key) (sym e) ∙ miss))
]

has-here : (p : PackageData) (key : List ℕ) (o : Option (List ℕ)) → p.checksum ≡ o → ((digest : List ℕ) × HasChecksumAt key p digest) ⊎ ((digest : List ℕ) → ¬ HasChecksumAt key p digest)
has-here p key None e = inr (λ digest h. none-some digest (sym e ∙ h.1))
has-here p key (Some c) e = elim (same-key p key) [
  | inl same ↦ inl (c, (same, e))
  | inr other ↦ inr (λ digest h. other h.0)
]

owner : (ps : List PackageData) (key : List ℕ) → Owner ps key ⊎ HasNoChecksum ps key
owner [] key = inr (λ j p digest at h. none-some p at)
owner (p ∷ ps) key = elim (has-here p key p.checksum refl) [
  | inl here ↦ inl (0, p, here.0, refl, here.1)
  | inr not_here ↦ elim (owner ps key) [
    | inl later ↦ inl (suc later.0, later.1, later.2, later.3, later.4)
    | inr never ↦ inr (λ j q digest at h. none j q digest at h not_here never)
  ]
]
  where
    none : (j : ℕ) (q : PackageData) (digest : List ℕ) → slice_get (p ∷ ps) j ≡ Some q → HasChecksumAt key q digest
        → ((digest : List ℕ) → ¬ HasChecksumAt key p digest) → HasNoChecksum ps key → ⊥
    none zero q digest at h first never = first digest (subst (λ x. HasChecksumAt key x digest) (sym (same_Some p q at)) h)
    none (suc j) q digest at h first never = never j q digest at h

-- a key that is there is that of a package with a checksum
key-owner : (ps : List PackageData) (key : List ℕ) → is_some (get (metadata_of V1 empty ps) key) ≡ true → Owner ps key
key-owner ps key there = elim (owner ps key) [
  | inl found ↦ found
  | inr never ↦
      let nothing : get (metadata_of V1 empty ps) key ≡ None = (checksums_at_keys empty ps key).1 never ∙ get-empty (slice_cmp nat_cmp) key in
      absurd (true≢false (sym there ∙ ap is_some nothing))
]

-- the package, one of a plain lockfile, to which a key that is there belongs
record Belongs (ps : List PackageData) (name : List ℕ) (version : Parts) (key : List ℕ) : Type 0 where
  place : ℕ
  bearer : PackageData
  at : IsAt ps place bearer
  digest : List ℕ
  has : HasChecksumAt key bearer digest
  own_name : bearer.name ≡ name
  own_version : bearer.version ≡ version

belongs : (list : List Identity) (ps : List PackageData) → AllByRecursion (IsPlainPackage list) ps → (name : List ℕ) (version : Parts) (key : List ℕ)
    → is_some (get (metadata_of V1 empty ps) key) ≡ true → reads_as name version key ≡ true → Belongs ps name version key
belongs list ps plain name version key there reads =
    let o = key-owner ps key there in
    let named = sym (key-named list o.1 name version (all-at (IsPlainPackage list) ps o.0 o.1 plain o.3)) ∙ ap (reads_as name version) o.4.0 ∙ reads in
    let both = and_parts _ _ named in
    record {
      place = o.0;
      bearer = o.1;
      at = o.3;
      digest = o.2;
      has = o.4;
      own_name = same_text-yes _ _ both.0;
      own_version = same_parts-yes _ _ both.1;
    }

-- the checksum of a package stands at its key
stands : (list : List Identity) (ps : List PackageData) → AllByRecursion (IsPlainPackage list) ps → HasNoTwins (map identity_of ps) → (k : ℕ) (p : PackageData) (c : List ℕ)
    → IsAt ps k p → p.checksum ≡ Some c → get (metadata_of V1 empty ps) (checksum_key (identity_of p)) ≡ Some (digest_text c)
stands list ps plain apart k p c at has =
    (checksums_at_keys empty ps (checksum_key (identity_of p))).0 c (record {
      place = k;
      owner = p;
      stands = at;
      has = (refl, has);
      last = λ j q other low there h.
          let r = key-reads list q (all-at (IsPlainPackage list) ps j q plain there) in
          let t = key-reads list p (all-at (IsPlainPackage list) ps k p plain at) in
          let same : r.identity ≡ t.identity = same_Some _ _ (sym r.reads ∙ ap key_identity h.0 ∙ t.reads) in
          let name : q.name ≡ p.name = sym r.name ∙ ap (λ (i : Identity). i.name) same ∙ t.name in
          let version : q.version ≡ p.version = sym r.version ∙ ap (λ (i : Identity). i.version) same ∙ t.version in
          let place = one-place ps apart j k q p there at name version in
          absurd (omega (arith, low, place));
    })

-- and is found there
found : (list : List Identity) (ps : List PackageData) → AllByRecursion (IsPlainPackage list) ps → HasNoTwins (map identity_of ps) → (k : ℕ) (p : PackageData) → IsAt ps k p
    → (o : Option (List ℕ)) → p.checksum ≡ o → checksum_in (metadata_of V1 empty ps) p.name p.version ≡ p.checksum
found list ps plain apart k p at None has =
    (checksum_at_least_key (metadata_of V1 empty ps) p.name p.version).1 (λ key there. elim (cases_Bool (reads_as p.name p.version key)) [
      | inl reads ↦
          let b = belongs list ps plain p.name p.version key there reads in
          let same : b.bearer ≡ p = one-package ps apart b.place k b.bearer p b.at at b.own_name b.own_version in
          absurd (none-some b.digest (sym has ∙ ap (λ (x : PackageData). x.checksum) (sym same) ∙ b.has.1))
      | inr other ↦ other
    ]) ∙ sym has
found list ps plain apart k p at (Some c) has =
    let m = metadata_of V1 empty ps in
    let own = all-at (IsPlainPackage list) ps k p plain at in
    let named : reads_as p.name p.version (checksum_key (identity_of p)) ≡ true = key-named list p p.name p.version own ∙ rw (same_text-refl p.name) (same_parts-refl p.version) in
    let least : IsAtLeastKey m p.name p.version (digest_text c) = record {
      key = checksum_key (identity_of p);
      holds = stands list ps plain apart k p c at has;
      named = named;
      least = λ key there reads less.
          let b = belongs list ps plain p.name p.version key there reads in
          let same : b.bearer ≡ p = one-package ps apart b.place k b.bearer p b.at at b.own_name b.own_version in
          let one : key ≡ checksum_key (identity_of p) = sym b.has.0 ∙ ap (λ (x : PackageData). checksum_key (identity_of x)) same in
          let tied : slice_cmp nat_cmp key (checksum_key (identity_of p)) ≡ Equal = ap (λ t. slice_cmp nat_cmp t (checksum_key (identity_of p))) one ∙ tied_itself nat_list_cmp_total (checksum_key (identity_of p)) in
          not-less (sym tied ∙ less);
    } in
    let back : DigestReadsBack c = subst (λ (x : Option (List ℕ)). IfSome x DigestReadsBack) has own.checksum in
    (checksum_at_least_key m p.name p.version).0 (digest_text c) least ∙ back ∙ sym has
  where
    not-less : Equal ≡ Less → ⊥
    not-less e = cc

-- ---- V1

some-key : (key v : List ℕ) (es : List (List ℕ × List ℕ)) → find (slice_cmp nat_cmp) key es ≡ Some v → is_checksum key ≡ true → list_any (λ e. is_checksum e.0) es ≡ true
some-key key v [] at h = absurd (none-some v at)
some-key key v (e ∷ es) at h = elim (cases_Bool (eq_by_cmp (slice_cmp nat_cmp) key e.0)) [
  | inl tied ↦
      let here : is_checksum e.0 ≡ true = ap is_checksum (sym (texts_tie key e.0 ((Equal-is _).0 tied))) ∙ h in
      ap (λ b. b || list_any (λ x. is_checksum x.0) es) here
  | inr apart ↦
      let later : find (slice_cmp nat_cmp) key es ≡ Some v = ap (λ b. cond b (Some e.1) (find (slice_cmp nat_cmp) key es)) (sym apart) ∙ at in
      ap (λ b. is_checksum e.0 || b) (some-key key v es later h) ∙ either (is_checksum e.0)
]
  where
    either : (b : Bool) → (b || true) ≡ true
    either true = refl
    either false = refl

shows : (list : List Identity) (ps : List PackageData) → AllByRecursion (IsPlainPackage list) ps → HasNoTwins (map identity_of ps) → (k : ℕ) (p : PackageData) (c : List ℕ) → IsAt ps k p → p.checksum ≡ Some c
    → has_checksum_key (metadata_of V1 empty ps) ≡ true
unfolding has_checksum_key
shows list ps plain apart k p c at has =
    some-key (checksum_key (identity_of p)) (digest_text c) (entries (metadata_of V1 empty ps))
    (sym (get-entries (metadata_of V1 empty ps) (checksum_key (identity_of p))) ∙ stands list ps plain apart k p c at has) (begins p)

first-entries : (list : List Identity) (m : Texts) (all : List PackageData) → AllByRecursion (IsPlainPackage list) all → list ≡ map identity_of all
    → (ps : List PackageData) → AllByRecursion (IsPlainPackage list) ps → ((k : ℕ) (p : PackageData) → IsAt ps k p → checksum_in m p.name p.version ≡ p.checksum)
    → AllByRecursion (ListedSurvives V1 list m) ps
unfolding written_reference
first-entries list m all plain is [] h sums = tt
first-entries list m all plain is (p ∷ ps) h sums = (
  (record { own = own-parts V1 list p h.0; dependencies = all-full list all plain p.dependencies (subst (λ l. AllByRecursion (IsAmong l) p.dependencies) is h.0.dependencies) }, sums 0 p refl),
  first-entries list m all plain is ps h.1 (λ k q at. sums (suc k) q at),
)

pub plain-first : (l : LockfileData) → IsPlain l → HasSomeChecksum l → Survives l V1
plain-first l h some =
    let ps = l.packages in
    let list = map identity_of ps in
    let nothing : metadata_of V1 empty ps ≡ metadata_of V1 l.metadata ps = ap (λ (m : Texts). metadata_of V1 m ps) (sym h.metadata) in
    let sums : (k : ℕ) (p : PackageData) → IsAt ps k p → checksum_in (metadata_of V1 l.metadata ps) p.name p.version ≡ p.checksum = λ k p at.
    subst (λ (m : Texts). checksum_in m p.name p.version ≡ p.checksum) nothing (found list ps h.packages h.no_twins k p at p.checksum refl) in
    shown V1 l h (first-entries list (metadata_of V1 l.metadata ps) ps h.packages refl ps h.packages sums)
    (subst (λ (m : Texts). has_checksum_key m ≡ true) nothing (shows list ps h.packages h.no_twins some.place some.bearer some.digest some.at some.has))

pub plain-survives : PlainSurvives
plain-survives l h = (plain-second l h, plain-third l h, plain-fourth l h, plain-first l h)
