-- The written metadata key by key.
use Rattle.std.proofs.Common.{◌≡◌, ◌≢◌, ◌<◌, inl, inr, ℕ, zero, suc, Bool, true, false, not, ◌||◌, cond, List, [], ◌∷◌, ◌++◌, slice_get, reverse, Option, Some, None, refl, sym, ap, ◌∙◌, arith}
use Rattle.std.proofs.lemmas.Bool.{cases_Bool}
use Rattle.std.proofs.lemmas.List.{append_assoc, reverse-append}
use Rattle.std.proofs.lemmas.Option.{same_Some, none-some}
use Rattle.std.specs.Cmp.Lexicographic.{nat_list_cmp_total}
use Rattle.std.specs.FinMap.{entries, get, get-entries, get-from_entries}
use Rattle.std.specs.FinMap.Entries as stored
use Rattle.std.specs.List.{list_any}
use Rattle.std.specs.Ordering.{eq_by_cmp}
use Rattle.cargo_lock_parts.specs.Checksum.{digest_text}
use Rattle.cargo_lock_parts.specs.Identity.{PackageData, identity_of}
use Rattle.cargo_lock_references.specs.declared.version.ResolveVersion.TheVariants.{V1, V2, V3, V4}
use Rattle.cargo_lock_references.specs.Metadata.{checksum_key, checksum_pairs, has_key, pairs_before, with_checksums, without_checksums}
use Rattle.cargo_lock_references.specs.Records.{Texts}
use Rattle.cargo_lock_references.specs.ResolutionSearch.{same_text}
use Rattle.cargo_lock_references.specs.WrittenMetadata.{ChecksumsAtKeys, HasChecksumAt, HasNoChecksum, IsKeyOf, IsOfPackage, NoChecksumKeys}
use Rattle.cargo_lock_references.proofs.ChecksumKeys.{get-without}
use Rattle.cargo_lock_references.proofs.LeastKeys.{order, Pairs, own_words-equal, same-key}
use Rattle.cargo_lock_references.proofs.ResolvesToLemmas.{same_text-refl, same_text-yes}

-- ---- V1

-- the value at a key, where the pairs of the packages stand before these
found : Pairs → List PackageData → List ℕ → Option (List ℕ)
found base ps key = stored.find order key (reverse (checksum_pairs ps) ++ base)

before : (p : PackageData) (o : Option (List ℕ)) (pairs base : Pairs) → reverse (pairs_before p o pairs) ++ base ≡ reverse pairs ++ pairs_before p o base
before p None pairs base = refl
before p (Some c) pairs base =
    let pair : List ℕ × List ℕ = (checksum_key (identity_of p), digest_text c) in
    ap (λ xs. xs ++ base) (reverse-append (pair ∷ []) pairs) ∙ append_assoc (reverse pairs) (pair ∷ []) base

found-first : (base : Pairs) (p : PackageData) (ps : List PackageData) (key : List ℕ) → found base (p ∷ ps) key ≡ found (pairs_before p p.checksum base) ps key
unfolding found
found-first base p ps key = ap (stored.find order key) (before p p.checksum (checksum_pairs ps) base)

-- a pair before others
hit : (key value : List ℕ) (base : Pairs) → stored.find order key ((key, value) ∷ base) ≡ Some value
hit key value base = ap (λ b. cond b (Some value) (stored.find order key base)) (own_words-equal key)

pass : (key other value : List ℕ) (base : Pairs) → other ≢ key → stored.find order key ((other, value) ∷ base) ≡ stored.find order key base
pass key other value base h = elim (cases_Bool (eq_by_cmp order key other)) [
  | inl t ↦ absurd (h (sym (same-key key other t)))
  | inr t ↦ ap (λ b. cond b (Some value) (stored.find order key base)) t
]

pass-by : (p : PackageData) (o : Option (List ℕ)) (key : List ℕ) (base : Pairs) → ((digest : List ℕ) → o ≡ Some digest → checksum_key (identity_of p) ≢ key)
    → stored.find order key (pairs_before p o base) ≡ stored.find order key base
pass-by p None key base h = refl
pass-by p (Some c) key base h = pass key (checksum_key (identity_of p)) (digest_text c) base (h c refl)

found-none : (base : Pairs) (ps : List PackageData) (key : List ℕ) → HasNoChecksum ps key → found base ps key ≡ stored.find order key base
unfolding found
found-none base [] key h = refl
found-none base (p ∷ ps) key h =
    found-first base p ps key
    ∙ found-none (pairs_before p p.checksum base) ps key (λ j q c s. h (suc j) q c s)
    ∙ pass-by p p.checksum key base (λ c t e. h 0 p c refl (e, t))

hit-by : (p : PackageData) (o : Option (List ℕ)) (key digest : List ℕ) (base : Pairs) → IsKeyOf key p → o ≡ Some digest
    → stored.find order key (pairs_before p o base) ≡ Some (digest_text digest)
hit-by p o key digest base e t =
    ap (λ it. stored.find order key (pairs_before p it base)) t
    ∙ ap (λ k. stored.find order key ((k, digest_text digest) ∷ base)) e
    ∙ hit key (digest_text digest) base

found-last : (base : Pairs) (ps : List PackageData) (key digest : List ℕ) (place : ℕ) (owner : PackageData) → slice_get ps place ≡ Some owner → HasChecksumAt key owner digest
    → ((j : ℕ) (p : PackageData) (other : List ℕ) → place < j → slice_get ps j ≡ Some p → ¬ HasChecksumAt key p other)
    → found base ps key ≡ Some (digest_text digest)
found-last base [] key digest place owner s h last = absurd (none-some owner s)
found-last base (p ∷ ps) key digest zero owner s h last =
    let same : p ≡ owner = same_Some p owner s in
    found-first base p ps key
    ∙ found-none (pairs_before p p.checksum base) ps key (λ j q c t. last (suc j) q c (omega arith) t)
    ∙ hit-by p p.checksum key digest base (ap (λ q. checksum_key (identity_of q)) same ∙ h.0) (ap (λ q. q.checksum) same ∙ h.1)
found-last base (p ∷ ps) key digest (suc place) owner s h last =
    found-first base p ps key
    ∙ found-last (pairs_before p p.checksum base) ps key digest place owner s h (λ j q c l t. last (suc j) q c (omega (arith, l)) t)

get-with : (m : Texts) (ps : List PackageData) (key : List ℕ) → get (with_checksums m ps) key ≡ found (entries m) ps key
unfolding with_checksums found
get-with m ps key = get-from_entries nat_list_cmp_total (reverse (checksum_pairs ps) ++ entries m) key

pub checksums_at_keys : ChecksumsAtKeys
checksums_at_keys m ps key = (
  λ digest h. get-with m ps key ∙ found-last (entries m) ps key digest h.place h.owner h.stands h.has h.last,
  λ h. get-with m ps key ∙ found-none (entries m) ps key h ∙ sym (get-entries m key),
)

-- ---- from V2 on

taken : (key : List ℕ) (p : PackageData) → IsKeyOf key p → has_key key p ≡ true
taken key p e = ap (same_text key) e ∙ same_text-refl key

or-true : (b : Bool) → b || true ≡ true
or-true true = refl
or-true false = refl

any-taken : (ps : List PackageData) (key : List ℕ) (j : ℕ) (p : PackageData) → slice_get ps j ≡ Some p → IsKeyOf key p → list_any (has_key key) ps ≡ true
any-taken [] key j p s e = absurd (none-some p s)
any-taken (q ∷ ps) key zero p s e = ap (λ b. b || list_any (has_key key) ps) (ap (has_key key) (same_Some q p s) ∙ taken key p e)
any-taken (q ∷ ps) key (suc j) p s e = ap (λ b. has_key key q || b) (any-taken ps key j p s e) ∙ or-true (has_key key q)

any-free : (ps : List PackageData) (key : List ℕ) → ¬ IsOfPackage ps key → list_any (has_key key) ps ≡ false
any-free [] key h = refl
any-free (q ∷ ps) key h = elim (cases_Bool (has_key key q)) [
  | inl t ↦ absurd (h (0, q, refl, sym (same_text-yes key (checksum_key (identity_of q)) t)))
  | inr t ↦ ap (λ b. b || list_any (has_key key) ps) t ∙ any-free ps key (λ it. h (suc it.0, it.1, it.2, it.3))
]

later : (m : Texts) (ps : List PackageData) (key : List ℕ)
    → (IsOfPackage ps key → get (without_checksums m ps) key ≡ None)
    × (¬ IsOfPackage ps key → get (without_checksums m ps) key ≡ get m key)
later m ps key = (
  λ h. get-without m ps key ∙ ap (λ b. cond (not b) (get m key) None) (any-taken ps key h.0 h.1 h.2 h.3),
  λ h. get-without m ps key ∙ ap (λ b. cond (not b) (get m key) None) (any-free ps key h),
)

pub no_checksum_keys : NoChecksumKeys
no_checksum_keys V1 m ps key h = absurd (h refl)
no_checksum_keys V2 m ps key h = later m ps key
no_checksum_keys V3 m ps key h = later m ps key
no_checksum_keys V4 m ps key h = later m ps key
