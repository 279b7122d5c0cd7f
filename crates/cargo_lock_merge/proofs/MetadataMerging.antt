-- The metadata of a merge, key by key.
use Rattle.std.proofs.Common.{◌≡◌, ◌≢◌, ◌⊎◌, ◌||◌, ◌&&◌, ◌<◌, ◌+◌, inl, inr, ℕ, Bool, true, false, cond, List, ◌∷◌, Option, Some, None, bytes_eq, get_or, is_some, length, option_map, take, refl, sym, ap, subst, ◌∙◌, true≢false}
use Rattle.std.specs.BTreeMap.{BTreeMap, UpdatesBy, is_at}
use Rattle.std.specs.Cmp.Lexicographic.{slice_cmp}
use Rattle.std.specs.FinMap.{get}
use Rattle.std.specs.List.{list_any}
use Rattle.std.specs.Map.{lookup}
use Rattle.std.specs.Ordering.{nat_cmp}
use Rattle.std.proofs.lemmas.List.Folds.{list_any_more}
use Rattle.std.proofs.lemmas.Map.Entries.{lookup_tail}
use Rattle.std.proofs.lemmas.Map.Text.{is_eq-slice_cmp}
use Rattle.std.proofs.lemmas.Slice.Eq.{bytes_eq-Decides}
use Rattle.cargo_lock.specs.CargoChecksums.{key_from}
use Rattle.cargo_lock_merge.specs.OwnMetadata.{ChangesAt, IsMergedAt, IsMergedKey, IsReadyKey, is_checksum_at, is_key, own_metadata, own_value, value_at_key, without_packages}
use Rattle.cargo_lock_merge.specs.declared.metadata.MetadataConflict.{MetadataConflict}
use Rattle.cargo_lock_merge.specs.declared.metadata.MetadataMerge.{MetadataMerge}
use Rattle.cargo_lock_merge.specs.declared.metadata.MetadataSides.{MetadataSides}
use Rattle.cargo_lock_merge_core.proofs.Agreeing.{agreed-apart, agreed-once}
use Rattle.cargo_lock_merge_core.specs.Rule3.{IsAgreed, IsInConflict}
use Rattle.cargo_lock_parts.specs.Identity.{PackageData}
use Rattle.cargo_lock_parts.specs.Source.{Source}
use Rattle.cargo_lock_encoding.specs.Lockfiles.{LockfileData}
use Rattle.cargo_lock_references.specs.Records.{Texts, texts_of}
use Rattle.cargo_lock_references.proofs.Texts.{get-view}
use Rattle.cargo_lock_references.specs.declared.version.ResolveVersion.{ResolveVersion}
use Rattle.cargo_lock_references.specs.declared.version.ResolveVersion.TheVariants.{V1, V2, V3, V4}

-- ---- keys

-- two keys are equal or not
pub cases-key : (q key : List ℕ) → (q ≡ key) ⊎ (q ≢ key)
cases-key q key = by (bytes_eq q key) refl
  where
    by : (b : Bool) → bytes_eq q key ≡ b → (q ≡ key) ⊎ (q ≢ key)
    by true e = inl ((bytes_eq-Decides q key).0 e)
    by false e = inr (λ k. true≢false (sym ((bytes_eq-Decides q key).1 k) ∙ e))

-- the order of keys does not say that two keys are equal that are not
pub key-apart : (q key : List ℕ) → q ≢ key → is_at (slice_cmp nat_cmp q) key ≡ false
key-apart q key apart = is_eq-slice_cmp q key ∙ by (bytes_eq q key) refl
  where
    by : (b : Bool) → bytes_eq q key ≡ b → b ≡ false
    by true e = absurd (apart ((bytes_eq-Decides q key).0 e))
    by false e = refl

-- what an update leaves at the other keys
pub updated-others : {X : Type 0} (m n : BTreeMap (List ℕ) X) (key q : List ℕ) (w : Option X)
    → UpdatesBy (slice_cmp nat_cmp) (slice_cmp nat_cmp key) m n w → q ≢ key → value_at_key n q ≡ value_at_key m q
updated-others m n key q w h apart = h.2 q (key-apart key q (λ e. apart (sym e)))

-- ---- the values at one key

-- a key with nothing yet, or with what is agreed on
pub agreed-ready : (b o t v m : Option (List ℕ)) (c : Option MetadataConflict) → IsAgreed b o t v
    → IsMergedAt b o t m c ⊎ ((m ≡ None) × (c ≡ None)) → ((m ≡ None) ⊎ (m ≡ v)) × (c ≡ None)
agreed-ready b o t v m None a (inl h) = (inr (agreed-once b o t m v h a), refl)
agreed-ready b o t v m None a (inr h) = (inl h.0, refl)
agreed-ready b o t v m (Some c) a (inl h) = absurd (agreed-apart b o t v a h.0)
agreed-ready b o t v m (Some c) a (inr h) = (inl h.0, h.1)

-- a key with nothing yet, or with the conflict, has no value
pub conflict-ready : (b o t m : Option (List ℕ)) (c : Option MetadataConflict) → IsInConflict b o t
    → IsMergedAt b o t m c ⊎ ((m ≡ None) × (c ≡ None)) → m ≡ None
conflict-ready b o t m None a (inl h) = absurd (agreed-apart b o t m h a)
conflict-ready b o t m None a (inr h) = h.0
conflict-ready b o t m (Some c) a (inl h) = h.2
conflict-ready b o t m (Some c) a (inr h) = h.0

pub merged-along : (b o t m n : Option (List ℕ)) (c d : Option MetadataConflict) → n ≡ m → d ≡ c → IsMergedAt b o t m c → IsMergedAt b o t n d
merged-along b o t m n c d e f h =
    subst (λ x. IsMergedAt b o t x d) (sym e) (subst (λ (x : Option MetadataConflict). IsMergedAt b o t m x) (sym f) h)

-- ---- one more key

module _ (s : MetadataSides) (old new : MetadataMerge) (key : List ℕ) (others : ChangesAt key old new) (done : IsMergedKey s new key) where
  pub kept-merged : (q : List ℕ) → IsMergedKey s old q → IsMergedKey s new q
  kept-merged q h = elim (cases-key q key) [
    | inl e ↦ subst (λ (k : List ℕ). IsMergedKey s new k) (sym e) done
    | inr apart ↦ merged-along (value_at_key s.base.now q) (value_at_key s.ours.now q) (value_at_key s.theirs.now q) _ _ _ _ (others.agreed q apart) (others.conflicts q apart) h
  ]

  pub kept-ready : (q : List ℕ) → IsReadyKey s old q → IsReadyKey s new q
  kept-ready q (inl h) = inl (kept-merged q h)
  kept-ready q (inr h) = elim (cases-key q key) [
    | inl e ↦ inl (subst (λ (k : List ℕ). IsMergedKey s new k) (sym e) done)
    | inr apart ↦ inr (others.agreed q apart ∙ h.0, others.conflicts q apart ∙ h.1)
  ]

  -- the keys that are not left are merged, or not among the keys
  pub passed : {X : Type 0} (left rest : List (List ℕ × X)) (value : X) (absent : List ℕ → Type 0) → left ≡ (key, value) ∷ rest
      → ((q : List ℕ) → lookup (is_at (slice_cmp nat_cmp q)) left ≡ None → absent q ⊎ IsMergedKey s old q)
      → (q : List ℕ) → lookup (is_at (slice_cmp nat_cmp q)) rest ≡ None → absent q ⊎ IsMergedKey s new q
  passed left rest value absent is before q none = elim (cases-key q key) [
    | inl e ↦ inr (subst (λ (k : List ℕ). IsMergedKey s new k) (sym e) done)
    | inr apart ↦
        elim (before q (ap (lookup (is_at (slice_cmp nat_cmp q))) is ∙ lookup_tail (is_at (slice_cmp nat_cmp q)) (key, value) rest (key-apart q key apart) ∙ none)) [
          | inl h ↦ inl h
          | inr h ↦ inr (kept-merged q h)
        ]
  ]

-- a key that no side has is merged
pub absent-merged : (s : MetadataSides) (m : MetadataMerge) (key : List ℕ) → value_at_key s.ours.now key ≡ None → value_at_key s.theirs.now key ≡ None
    → IsReadyKey s m key → IsMergedKey s m key
absent-merged s m key o t (inl h) = h
absent-merged s m key o t (inr h) =
    merged-along (value_at_key s.base.now key) (value_at_key s.ours.now key) (value_at_key s.theirs.now key) None _ None _ h.0 h.1 (inl (o ∙ sym t, sym o))

-- ---- the metadata of a lockfile

own-later : (v : ResolveVersion) (m : Texts) (packages : List PackageData) (key : List ℕ) → v ≢ V1 → own_value v m packages key ≡ get m key
own-later V1 m packages key n = absurd (n refl)
own-later V2 m packages key n = refl
own-later V3 m packages key n = refl
own-later V4 m packages key n = refl

-- one of the later formats is not the first
pub later : (v : ResolveVersion) → (v ≡ V2) ⊎ ((v ≡ V3) ⊎ (v ≡ V4)) → v ≢ V1
later v (inl e) f = absurd (let both : V2 ≡ V1 = sym e ∙ f in cc)
later v (inr (inl e)) f = absurd (let both : V3 ≡ V1 = sym e ∙ f in cc)
later v (inr (inr e)) f = absurd (let both : V4 ≡ V1 = sym e ∙ f in cc)

-- a copy of the metadata from V2 on
pub own-copy : (l : LockfileData) (m copy : BTreeMap (List ℕ) (List ℕ)) (key : List ℕ) → l.version ≢ V1 → l.metadata ≡ texts_of m.entries → copy.entries ≡ m.entries
    → value_at_key copy key ≡ own_metadata l key
own-copy l m copy key later is same =
    ap (lookup (is_at (slice_cmp nat_cmp key))) same ∙ sym (get-view m key) ∙ ap (λ (t : Texts). get t key) (sym is) ∙ sym (own-later l.version l.metadata l.packages key later)

-- in V1 they are without the checksums of packages
pub own-first : (l : LockfileData) (key : List ℕ) → l.version ≡ V1 → without_packages l.metadata l.packages key ≡ own_metadata l key
own-first l key e = ap (λ v. own_value v l.metadata l.packages key) (sym e)

-- one more package
pub without-more : (m : Texts) (packages : List PackageData) (i : ℕ) (p : PackageData) (key : List ℕ) → i < length packages → p ≡ get_or packages i p
    → without_packages m (take (i + 1) packages) key ≡ cond (is_checksum_at key p) None (without_packages m (take i packages) key)
without-more m packages i p key low is =
    ap (λ b. cond b None (get m key)) (list_any_more (is_checksum_at key) packages i p low ∙ ap (λ y. list_any (is_checksum_at key) (take i packages) || is_checksum_at key y) (sym is))
    ∙ either (list_any (is_checksum_at key) (take i packages)) (is_checksum_at key p) (get m key)
  where
    either : (a b : Bool) (x : Option (List ℕ)) → cond (a || b) None x ≡ cond b None (cond a None x)
    either true true x = refl
    either true false x = refl
    either false true x = refl
    either false false x = refl

-- a package without a checksum, or without a source, has no key
pub no-checksum : (p : PackageData) (key : List ℕ) → p.checksum ≡ None → is_checksum_at key p ≡ false
no-checksum p key e = ap (λ (o : Option (List ℕ)). is_some o && is_key key (option_map (key_from p) p.source)) e

pub no-source : (p : PackageData) (key : List ℕ) → p.source ≡ None → is_checksum_at key p ≡ false
no-source p key e = ap (λ (o : Option Source). is_some p.checksum && is_key key (option_map (key_from p) o)) e ∙ by (is_some p.checksum)
  where
    by : (b : Bool) → (b && false) ≡ false
    by true = refl
    by false = refl

pub some-mapped : {A B : Type 0} (f : A → B) (o : Option A) → is_some (option_map f o) ≡ is_some o
some-mapped f None = refl
some-mapped f (Some x) = refl

-- one with both has its key
pub own-key : (p : PackageData) (s : Source) (key : List ℕ) → is_some p.checksum ≡ true → p.source ≡ Some s → is_checksum_at key p ≡ is_at (slice_cmp nat_cmp (key_from p s)) key
own-key p s key c e =
    ap (λ (o : Option Source). is_some p.checksum && is_key key (option_map (key_from p) o)) e
    ∙ ap (λ b. b && bytes_eq (key_from p s) key) c
    ∙ sym (is_eq-slice_cmp (key_from p s) key)
