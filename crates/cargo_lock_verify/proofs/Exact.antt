-- What is found is exactly what the relations say.
use Rattle.std.proofs.Common.{◌≡◌, ◌≢◌, ◌⊎◌, ◌&&◌, ◌||◌, inl, inr, ℕ, Bool, true, false, true≢false, List, [], ◌∷◌, Option, None, Some, is_some, filter, map, not, refl, ap, sym, ◌∙◌, subst, if◌then◌else◌}
use Rattle.std.specs.List.{All, Contains, flat_map, list_any}
use Rattle.std.proofs.lemmas.Slice.Eq.{bytes_eq-Decides}
use Rattle.std.proofs.lemmas.Option.{same_Some}
use Rattle.cargo_lock_parts.specs.Identity.{PackageData, identity_of}
use Rattle.cargo_lock_references.specs.WrittenReference.{has_name_and_version}
use Rattle.cargo_lock_verify.specs.Archives.{ArchiveData, ArchiveFindingData, ArchiveFindingsAreExact, ArchiveSubjectData, CacheData, Changed, IsArchiveFinding, IsArchiveFindingOf, IsChanged, IsChangedBy, IsExpected, IsMissing, IsOfNamesake, IsOfRegistryUnchecked, IsVerified, Missing, NoChecksum, NoneIfVerified}
use Rattle.cargo_lock_verify.specs.Archives.{archive_findings, found_by_checksum, found_if, found_in, found_of_unchecked, found_unless, is_archive_of, is_changed, has_digest_if, is_digest, is_expected, is_in_its_place}
use Rattle.cargo_lock_parts.specs.Source.{is_of_registry}
use Rattle.lists.proofs.Members.{first-in as first, in-joined as in-flat, in-kept, in-map, joined-in, kept-in, map-in, none-in as no-element}
use Rattle.lists.proofs.Members.{none-left as no-elements}
use Rattle.lists.proofs.Tests.{and-both, and-parts, any-none, any-one, is-false, none-any, not-true, only, or-cases}

-- ---- which packages are verified

-- some element passes
pub any-is : {X : Type 0} (test : X → Bool) (xs : List X) (x : X) → Contains xs x → test x ≡ true → list_any test xs ≡ true
any-is test xs x there passes = by (list_any test xs) refl
  where
    by : (b : Bool) → list_any test xs ≡ b → b ≡ true
    by true e = refl
    by false e = absurd (true≢false (sym passes ∙ any-none test xs e x there))

pub verified-is : (s : ArchiveSubjectData) (c : List ℕ) → s.content.checksum ≡ Some c → IsVerified s → list_any (is_digest c) s.archives ≡ true
verified-is s c is v = let (a, there, same) = v in
    any-is (is_digest c) s.archives a there ((bytes_eq-Decides a.digest c).1 (same_Some a.digest c (sym same ∙ is)))

pub is-verified : (s : ArchiveSubjectData) (c : List ℕ) → s.content.checksum ≡ Some c → list_any (is_digest c) s.archives ≡ true → IsVerified s
is-verified s c is e = let (a, there, passes) = any-one (is_digest c) s.archives e in
    (a, there, is ∙ ap Some (sym ((bytes_eq-Decides a.digest c).0 passes)))

pub has-one : (s : ArchiveSubjectData) (c : List ℕ) → s.content.checksum ≡ Some c → s.content.checksum ≢ None
has-one s c is none = true≢false (ap is_some (sym is ∙ none))

-- ---- which archives are known, and which are changed

is-checksum : (o : Option (List ℕ)) (a : ArchiveData) → has_digest_if o a ≡ true → o ≡ Some a.digest
is-checksum None a e = absurd (true≢false (sym e))
is-checksum (Some c) a e = ap Some (sym ((bytes_eq-Decides a.digest c).0 e))

checksum-is : (o : Option (List ℕ)) (a : ArchiveData) → o ≡ Some a.digest → has_digest_if o a ≡ true
checksum-is o a is = subst (λ x. has_digest_if x a ≡ true) (sym is) ((bytes_eq-Decides a.digest a.digest).1 refl)

pub is-known : (cache : CacheData) (p : PackageData) (a : ArchiveData) → is_expected cache p a ≡ true → IsExpected cache p a
is-known cache p a e = by (or-cases (has_digest_if p.checksum a) (list_any (λ s. is_archive_of p a s.content) cache.subjects) e)
  where
    by : (has_digest_if p.checksum a ≡ true) ⊎ (list_any (λ s. is_archive_of p a s.content) cache.subjects ≡ true) → IsExpected cache p a
    by (inl own) = inl (is-checksum p.checksum a own)
    by (inr other) = let (s, there, passes) = any-one (λ (t : ArchiveSubjectData). is_archive_of p a t.content) cache.subjects other in
        let parts = and-parts (has_name_and_version p.name p.version (identity_of s.content)) (has_digest_if s.content.checksum a) passes in
        inr (s, there, parts.0, is-checksum s.content.checksum a parts.1)

pub known-is : (cache : CacheData) (p : PackageData) (a : ArchiveData) → IsExpected cache p a → is_expected cache p a ≡ true
known-is cache p a (inl own) = ap (λ (b : Bool). b || list_any (λ s. is_archive_of p a s.content) cache.subjects) (checksum-is p.checksum a own)
known-is cache p a (inr other) = by (has_digest_if p.checksum a)
  where
    found : list_any (λ s. is_archive_of p a s.content) cache.subjects ≡ true
    found = let (s, there, named, is) = other in any-is (λ (t : ArchiveSubjectData). is_archive_of p a t.content) cache.subjects s there
        (and-both (has_name_and_version p.name p.version (identity_of s.content)) (has_digest_if s.content.checksum a) named (checksum-is s.content.checksum a is))

    by : (b : Bool) → (b || list_any (λ s. is_archive_of p a s.content) cache.subjects) ≡ true
    by true = refl
    by false = found

pub changed-by : (cache : CacheData) (s : ArchiveSubjectData) (a : ArchiveData) → s.content.checksum ≢ None → Contains s.archives a
    → is_changed cache s.content a ≡ true → IsChangedBy cache s a
changed-by cache s a has there e = let parts = and-parts (is_in_its_place cache s.content a) (not (is_expected cache s.content a)) e in record {
  has_checksum = has;
  is_one = there;
  near = parts.0;
  unknown = λ known. true≢false (sym (known-is cache s.content a known) ∙ not-true (is_expected cache s.content a) parts.1);
}

pub by-changed : (cache : CacheData) (s : ArchiveSubjectData) (a : ArchiveData) → IsChangedBy cache s a → is_changed cache s.content a ≡ true
by-changed cache s a h = and-both (is_in_its_place cache s.content a) (not (is_expected cache s.content a)) h.near
    (ap not (is-false (is_expected cache s.content a) (λ e. h.unknown (is-known cache s.content a e))))

-- one of the archives is changed
pub some-changed : (cache : CacheData) (s : ArchiveSubjectData) → s.content.checksum ≢ None
    → list_any (is_changed cache s.content) s.archives ≡ true → IsChanged cache s
some-changed cache s has e = let (a, there, passes) = any-one (is_changed cache s.content) s.archives e in
    (a, changed-by cache s a has there passes)

pub changed-some : (cache : CacheData) (s : ArchiveSubjectData) → IsChanged cache s → list_any (is_changed cache s.content) s.archives ≡ true
changed-some cache s (a, h) = any-is (is_changed cache s.content) s.archives a h.is_one (by-changed cache s a h)

pub none-changed : (cache : CacheData) (s : ArchiveSubjectData) → list_any (is_changed cache s.content) s.archives ≡ false → ¬ IsChanged cache s
none-changed cache s e h = true≢false (sym (changed-some cache s h) ∙ e)

-- ---- what is found is so

is-one-of : {X : Type 0} (x y : X) → Contains (x ∷ []) y → y ≡ x
is-one-of x y h = sym (only x y h)

changed-so : (cache : CacheData) (s : ArchiveSubjectData) (f : ArchiveFindingData) → s.content.checksum ≢ None
    → Contains (map (Changed s.content) (filter (is_changed cache s.content) s.archives)) f → IsArchiveFindingOf cache s f
changed-so cache s f has h =
    let (a, kept, is) = map-in (Changed s.content) (filter (is_changed cache s.content) s.archives) f h in
    let (there, passes) = kept-in (is_changed cache s.content) s.archives a kept in
    subst (IsArchiveFindingOf cache s) is (refl, changed-by cache s a has there passes)

missing-so : (cache : CacheData) (s : ArchiveSubjectData) (f : ArchiveFindingData) (c : List ℕ) → s.content.checksum ≡ Some c
    → list_any (is_changed cache s.content) s.archives ≡ false → Contains (found_unless s.content (list_any (is_digest c) s.archives)) f
    → IsArchiveFindingOf cache s f
missing-so cache s f c is unchanged h = by (list_any (is_digest c) s.archives) refl h
  where
    by : (b : Bool) → list_any (is_digest c) s.archives ≡ b → Contains (found_unless s.content b) f → IsArchiveFindingOf cache s f
    by true e there = absurd (no-element f there)
    by false e there = subst (IsArchiveFindingOf cache s) (sym (is-one-of (Missing s.content) f there)) (
      refl,
      record {
        has_checksum = has-one s c is;
        unseen = λ v. true≢false (sym (verified-is s c is v) ∙ e);
        unchanged = none-changed cache s unchanged;
      },
    )

unchecked-so : (cache : CacheData) (s : ArchiveSubjectData) (f : ArchiveFindingData) → s.content.checksum ≡ None
    → Contains (found_of_unchecked s.content) f → IsArchiveFindingOf cache s f
unchecked-so cache s f none h = by (is_of_registry s.content.source) refl h
  where
    by : (b : Bool) → is_of_registry s.content.source ≡ b → Contains (if b then NoChecksum s.content ∷ [] else []) f → IsArchiveFindingOf cache s f
    by true e there = subst (IsArchiveFindingOf cache s) (sym (is-one-of (NoChecksum s.content) f there)) (refl, (none, e))
    by false e there = absurd (no-element f there)

found-is-so : (cache : CacheData) (s : ArchiveSubjectData) (f : ArchiveFindingData) → Contains (found_in cache s) f → IsArchiveFindingOf cache s f
found-is-so cache s f = by s.content.checksum refl
  where
    by : (o : Option (List ℕ)) → s.content.checksum ≡ o → Contains (found_by_checksum cache s o) f → IsArchiveFindingOf cache s f
    by None is h = unchecked-so cache s f is h
    by (Some c) is h = either (list_any (is_changed cache s.content) s.archives) refl h
      where
        either : (b : Bool) → list_any (is_changed cache s.content) s.archives ≡ b
            → Contains (if b then map (Changed s.content) (filter (is_changed cache s.content) s.archives)
            else found_unless s.content (list_any (is_digest c) s.archives)) f → IsArchiveFindingOf cache s f
        either true e there = changed-so cache s f (has-one s c is) there
        either false e there = missing-so cache s f c is e there

-- ---- what is so is found

in-changed : (cache : CacheData) (s : ArchiveSubjectData) (a : ArchiveData) → IsChangedBy cache s a → Contains (found_in cache s) (Changed s.content a)
in-changed cache s a h = by s.content.checksum refl
  where
    by : (o : Option (List ℕ)) → s.content.checksum ≡ o → Contains (found_by_checksum cache s o) (Changed s.content a)
    by None is = absurd (h.has_checksum is)
    by (Some c) is = subst (λ (b : Bool). Contains (if b then map (Changed s.content) (filter (is_changed cache s.content) s.archives)
        else found_unless s.content (list_any (is_digest c) s.archives)) (Changed s.content a)) (sym (changed-some cache s (a, h)))
        (in-map (Changed s.content) (filter (is_changed cache s.content) s.archives) a
        (in-kept (is_changed cache s.content) s.archives a h.is_one (by-changed cache s a h)))

in-missing : (cache : CacheData) (s : ArchiveSubjectData) → IsMissing cache s → Contains (found_in cache s) (Missing s.content)
in-missing cache s h = by s.content.checksum refl
  where
    by : (o : Option (List ℕ)) → s.content.checksum ≡ o → Contains (found_by_checksum cache s o) (Missing s.content)
    by None is = absurd (h.has_checksum is)
    by (Some c) is =
        let unchanged : list_any (is_changed cache s.content) s.archives ≡ false =
        is-false _ (λ e. h.unchanged (some-changed cache s (has-one s c is) e)) in
        let unseen : list_any (is_digest c) s.archives ≡ false = is-false _ (λ e. h.unseen (is-verified s c is e)) in
        subst (λ (b : Bool). Contains (if b then map (Changed s.content) (filter (is_changed cache s.content) s.archives)
        else found_unless s.content (list_any (is_digest c) s.archives)) (Missing s.content)) (sym unchanged)
        (subst (λ (b : Bool). Contains (found_unless s.content b) (Missing s.content)) (sym unseen) (first (Missing s.content) []))

in-unchecked : (cache : CacheData) (s : ArchiveSubjectData) → IsOfRegistryUnchecked s.content → Contains (found_in cache s) (NoChecksum s.content)
in-unchecked cache s h = subst (λ (o : Option (List ℕ)). Contains (found_by_checksum cache s o) (NoChecksum s.content)) (sym h.0)
    (subst (λ (b : Bool). Contains (if b then NoChecksum s.content ∷ [] else []) (NoChecksum s.content)) (sym h.1)
    (first (NoChecksum s.content) []))

in-found : (cache : CacheData) (s : ArchiveSubjectData) (f : ArchiveFindingData) → IsArchiveFindingOf cache s f → Contains (found_in cache s) f
in-found cache s (Changed p a) h = subst (λ q. Contains (found_in cache s) (Changed q a)) (sym h.0) (in-changed cache s a h.1)
in-found cache s (Missing p) h = subst (λ q. Contains (found_in cache s) (Missing q)) (sym h.0) (in-missing cache s h.1)
in-found cache s (NoChecksum p) h = subst (λ q. Contains (found_in cache s) (NoChecksum q)) (sym h.0) (in-unchecked cache s h.1)

pub findings-are-exact : ArchiveFindingsAreExact
findings-are-exact cache f = (
  λ h. let (s, there, so) = joined-in (found_in cache) cache.subjects f h in (s, there, found-is-so cache s f so),
  λ h. let (s, there, so) = h in in-flat (found_in cache) cache.subjects s f there (in-found cache s f so),
)

-- ---- nothing is found

verified-if-none : (cache : CacheData) → archive_findings cache ≡ [] → (s : ArchiveSubjectData) → Contains cache.subjects s
    → (s.content.checksum ≢ None → IsVerified s) × (¬ IsChanged cache s) × (¬ IsOfRegistryUnchecked s.content)
verified-if-none cache none s there = (by s.content.checksum refl, unchanged, λ h. nothing (NoChecksum s.content) (in-unchecked cache s h))
  where
    nothing : (f : ArchiveFindingData) → ¬ Contains (found_in cache s) f
    nothing f h = no-element f (subst (λ xs. Contains xs f) none (in-flat (found_in cache) cache.subjects s f there h))

    unchanged : ¬ IsChanged cache s
    unchanged (a, h) = nothing (Changed s.content a) (in-changed cache s a h)

    by : (o : Option (List ℕ)) → s.content.checksum ≡ o → s.content.checksum ≢ None → IsVerified s
    by None is has-checksum = absurd (has-checksum is)
    by (Some c) is has-checksum = either (list_any (is_digest c) s.archives) refl
      where
        either : (b : Bool) → list_any (is_digest c) s.archives ≡ b → IsVerified s
        either true e = is-verified s c is e
        either false e = absurd (nothing (Missing s.content) (in-missing cache s (record {
          has_checksum = has-checksum;
          unseen = λ v. true≢false (sym (verified-is s c is v) ∙ e);
          unchanged = unchanged;
        })))

-- where each with a checksum is verified, none is changed, and each of a registry has one, this is
-- not found
not-found : (cache : CacheData) (s : ArchiveSubjectData) (f : ArchiveFindingData) → (s.content.checksum ≢ None → IsVerified s) → (¬ IsChanged cache s)
    → (¬ IsOfRegistryUnchecked s.content) → ¬ IsArchiveFindingOf cache s f
not-found cache s (Changed p a) verified unchanged checked h = unchanged (a, h.1)
not-found cache s (Missing p) verified unchanged checked h = h.1.unseen (verified h.1.has_checksum)
not-found cache s (NoChecksum p) verified unchanged checked h = checked h.1

pub none-if-verified : NoneIfVerified
none-if-verified cache = (
  verified-if-none cache,
  λ all. no-elements (archive_findings cache) (λ f h. let (s, there, so) = (findings-are-exact cache f).0 h in
      not-found cache s f (all s there).0 (all s there).1 (all s there).2 so),
)
