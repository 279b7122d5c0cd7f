-- Which packages are in which class, and how many are.
use Rattle.std.proofs.Common.{◌≡◌, ◌≢◌, ◌+◌, ◌==◌, ◌&&◌, ◌||◌, ◌⊎◌, inl, inr, ℕ, Bool, true, false, true≢false, not, cond, List, [], ◌∷◌, Option, None, Some, is_none, is_some, length, map, filter, count_by, refl, ap, sym, ◌∙◌, subst, arith, if◌then◌else◌}
use Rattle.std.specs.List.{Contains, list_any}
use Rattle.std.proofs.lemmas.Bool.{and_parts, eq-eqb, eqb-true, false_from_ne_true as untrue}
use Rattle.std.proofs.lemmas.List.{nil_from_length}
use Rattle.std.proofs.lemmas.List.Sums.{length-filter, sum_by-cons}
use Rattle.lists.proofs.Members.{first-in as first, in-kept, in-map, kept-in, map-in, none-in as no-element, none-left as no-elements}
use Rattle.cargo_lock_parts.specs.Source.{Source}
use Rattle.cargo_lock_verify.specs.declared.class.Class.{Class}
use Rattle.cargo_lock_verify.specs.declared.class.Class.TheVariants as class
use Rattle.cargo_lock_verify.specs.declared.class.Counts.{Counts}
use Rattle.cargo_lock_parts.specs.Source.{is_of_registry}
use Rattle.cargo_lock_verify.specs.Class.{CountsArePartition, is_class, is_clean}
use Rattle.cargo_lock_verify.specs.Archives.{ArchiveClassesAreExact, ArchiveSubjectData, ArchivesAreClean, CacheData, IsChanged, IsCleanOf, IsMatching, IsMissing, IsNotCompared, IsOfArchiveClass, IsOfRegistryUnchecked, IsVerified}
use Rattle.cargo_lock_verify.specs.Archives.{archive_class, archive_counts, class_by_checksum, class_unless, class_with_checksum, is_changed, is_digest}
use Rattle.cargo_lock_verify.specs.Vendored.{FolderClassesAreExact, IsCompared, IsOfFolderClass, VendoredData}
use Rattle.cargo_lock_verify.specs.Vendored.{class_by_source, class_of_sourced, folder_class, is_as_listed, is_unchecked}
use Rattle.cargo_lock_verify.proofs.Exact.{changed-some, has-one, is-verified, none-changed, some-changed, verified-is}
use Rattle.cargo_lock_verify.proofs.ExactFolders.{empty-if-vendored, vendored-if-empty}

-- ---- a partition

counted : (c d : Class) (cs : List Class) → count_by (is_class c) (d ∷ cs) ≡ cond (is_class c d) 1 0 + count_by (is_class c) cs
counted c d cs = sum_by-cons (λ y. cond (is_class c y) 1 0) d cs

pub counts-are-partition : CountsArePartition
counts-are-partition [] = refl
counts-are-partition (class.Matches ∷ cs) = omega (arith, counts-are-partition cs, counted class.Matches class.Matches cs, counted class.Changed class.Matches cs, counted class.Missing class.Matches cs, counted class.NoChecksum class.Matches cs, counted class.NotCompared class.Matches cs)
counts-are-partition (class.Changed ∷ cs) = omega (arith, counts-are-partition cs, counted class.Matches class.Changed cs, counted class.Changed class.Changed cs, counted class.Missing class.Changed cs, counted class.NoChecksum class.Changed cs, counted class.NotCompared class.Changed cs)
counts-are-partition (class.Missing ∷ cs) = omega (arith, counts-are-partition cs, counted class.Matches class.Missing cs, counted class.Changed class.Missing cs, counted class.Missing class.Missing cs, counted class.NoChecksum class.Missing cs, counted class.NotCompared class.Missing cs)
counts-are-partition (class.NoChecksum ∷ cs) = omega (arith, counts-are-partition cs, counted class.Matches class.NoChecksum cs, counted class.Changed class.NoChecksum cs, counted class.Missing class.NoChecksum cs, counted class.NoChecksum class.NoChecksum cs, counted class.NotCompared class.NoChecksum cs)
counts-are-partition (class.NotCompared ∷ cs) = omega (arith, counts-are-partition cs, counted class.Matches class.NotCompared cs, counted class.Changed class.NotCompared cs, counted class.Missing class.NotCompared cs, counted class.NoChecksum class.NotCompared cs, counted class.NotCompared class.NotCompared cs)

-- ---- how many are in a class

itself : (c : Class) → is_class c c ≡ true
itself class.Matches = refl
itself class.Changed = refl
itself class.Missing = refl
itself class.NoChecksum = refl
itself class.NotCompared = refl

same : (c d : Class) → is_class c d ≡ true → d ≡ c
same class.Matches class.Matches e = refl
same class.Matches class.Changed e = absurd (true≢false (sym e))
same class.Matches class.Missing e = absurd (true≢false (sym e))
same class.Matches class.NoChecksum e = absurd (true≢false (sym e))
same class.Matches class.NotCompared e = absurd (true≢false (sym e))
same class.Changed class.Matches e = absurd (true≢false (sym e))
same class.Changed class.Changed e = refl
same class.Changed class.Missing e = absurd (true≢false (sym e))
same class.Changed class.NoChecksum e = absurd (true≢false (sym e))
same class.Changed class.NotCompared e = absurd (true≢false (sym e))
same class.Missing class.Matches e = absurd (true≢false (sym e))
same class.Missing class.Changed e = absurd (true≢false (sym e))
same class.Missing class.Missing e = refl
same class.Missing class.NoChecksum e = absurd (true≢false (sym e))
same class.Missing class.NotCompared e = absurd (true≢false (sym e))
same class.NoChecksum class.Matches e = absurd (true≢false (sym e))
same class.NoChecksum class.Changed e = absurd (true≢false (sym e))
same class.NoChecksum class.Missing e = absurd (true≢false (sym e))
same class.NoChecksum class.NoChecksum e = refl
same class.NoChecksum class.NotCompared e = absurd (true≢false (sym e))
same class.NotCompared class.Matches e = absurd (true≢false (sym e))
same class.NotCompared class.Changed e = absurd (true≢false (sym e))
same class.NotCompared class.Missing e = absurd (true≢false (sym e))
same class.NotCompared class.NoChecksum e = absurd (true≢false (sym e))
same class.NotCompared class.NotCompared e = refl

none-counted : {X : Type 0} (of : X → Class) (c : Class) (xs : List X) (x : X) → count_by (is_class c) (map of xs) ≡ 0 → Contains xs x → of x ≢ c
none-counted of c xs x zero there is =
    let none : filter (is_class c) (map of xs) ≡ [] = nil_from_length _ (length-filter (is_class c) (map of xs) ∙ zero) in
    no-element (of x) (subst (λ ys. Contains ys (of x)) none (in-kept (is_class c) (map of xs) (of x) (in-map of xs x there)
    (subst (λ d. is_class c d ≡ true) (sym is) (itself c))))

count-none : {X : Type 0} (of : X → Class) (c : Class) (xs : List X) → ((x : X) → Contains xs x → of x ≢ c) → count_by (is_class c) (map of xs) ≡ 0
count-none of c xs none =
    let empty : filter (is_class c) (map of xs) ≡ [] = no-elements (filter (is_class c) (map of xs)) (λ d h.
    let (there, passes) = kept-in (is_class c) (map of xs) d h in let (x, in-it, is) = map-in of xs d there in
    none x in-it (is ∙ same c d passes)) in
    sym (length-filter (is_class c) (map of xs)) ∙ ap length empty

some-counted : {X : Type 0} (of : X → Class) (c : Class) (xs : List X) → count_by (is_class c) (map of xs) ≢ 0 → (x : X) × Contains xs x × (of x ≡ c)
some-counted {X} of c xs some = by (filter (is_class c) (map of xs)) refl
  where
    by : (kept : List Class) → filter (is_class c) (map of xs) ≡ kept → (x : X) × Contains xs x × (of x ≡ c)
    by [] is = absurd (some (sym (length-filter (is_class c) (map of xs)) ∙ ap length is))
    by (d ∷ rest) is =
        let (there, passes) = kept-in (is_class c) (map of xs) d (subst (λ ys. Contains ys d) (sym is) (first d rest)) in
        let (x, in-it, at) = map-in of xs d there in (x, in-it, at ∙ same c d passes)

-- ---- the class of a package by its archives

compared-so : (cache : CacheData) (s : ArchiveSubjectData) (c : List ℕ) → s.content.checksum ≡ Some c
    → IsOfArchiveClass cache s (class_with_checksum cache s.content s.archives c)
compared-so cache s c is = by (list_any (is_changed cache s.content) s.archives) refl
  where
    by : (b : Bool) → list_any (is_changed cache s.content) s.archives ≡ b
        → IsOfArchiveClass cache s (if b then class.Changed else class_unless (list_any (is_digest c) s.archives))
    by true e = some-changed cache s (has-one s c is) e
    by false e = either (list_any (is_digest c) s.archives) refl
      where
        either : (b : Bool) → list_any (is_digest c) s.archives ≡ b → IsOfArchiveClass cache s (class_unless b)
        either true h = record { verified = is-verified s c is h; unchanged = none-changed cache s e }
        either false h = record {
          has_checksum = has-one s c is;
          unseen = λ v. true≢false (sym (verified-is s c is v) ∙ h);
          unchanged = none-changed cache s e;
        }

class-so : (cache : CacheData) (s : ArchiveSubjectData) → IsOfArchiveClass cache s (archive_class cache s)
class-so cache s = by s.content.checksum refl
  where
    by : (o : Option (List ℕ)) → s.content.checksum ≡ o → IsOfArchiveClass cache s (class_by_checksum cache s o)
    by None is = either (is_of_registry s.content.source) refl
      where
        either : (b : Bool) → is_of_registry s.content.source ≡ b → IsOfArchiveClass cache s (if b then class.NoChecksum else class.NotCompared)
        either true e = (is, e)
        either false e = (is, e)
    by (Some c) is = compared-so cache s c is

class-unchecked : (cache : CacheData) (s : ArchiveSubjectData) (b : Bool) → s.content.checksum ≡ None → is_of_registry s.content.source ≡ b
    → archive_class cache s ≡ (if b then class.NoChecksum else class.NotCompared)
class-unchecked cache s b none is = subst (λ o. class_by_checksum cache s o ≡ (if b then class.NoChecksum else class.NotCompared)) (sym none)
    (ap (λ (x : Bool). if x then class.NoChecksum else class.NotCompared) is)

-- the class of a package with a checksum, by whether an archive is changed and one has the checksum
class-compared : (cache : CacheData) (s : ArchiveSubjectData) (changed : Bool) (d : Class) → s.content.checksum ≢ None
    → list_any (is_changed cache s.content) s.archives ≡ changed
    → ((c : List ℕ) → s.content.checksum ≡ Some c → (if changed then class.Changed else class_unless (list_any (is_digest c) s.archives)) ≡ d)
    → archive_class cache s ≡ d
class-compared cache s changed d has is each = by s.content.checksum refl
  where
    by : (o : Option (List ℕ)) → s.content.checksum ≡ o → class_by_checksum cache s o ≡ d
    by None none = absurd (has none)
    by (Some c) some = ap (λ (b : Bool). if b then class.Changed else class_unless (list_any (is_digest c) s.archives)) is ∙ each c some

is-unchanged : (cache : CacheData) (s : ArchiveSubjectData) → s.content.checksum ≢ None → (¬ IsChanged cache s)
    → list_any (is_changed cache s.content) s.archives ≡ false
is-unchanged cache s has none = untrue _ (λ e. none (some-changed cache s has e))

class-matching : (cache : CacheData) (s : ArchiveSubjectData) → IsMatching cache s → archive_class cache s ≡ class.Matches
class-matching cache s h = let (a, there, is) = h.verified in let has : s.content.checksum ≢ None = has-one s a.digest is in
    class-compared cache s false class.Matches has (is-unchanged cache s has h.unchanged)
    (λ c some. ap class_unless (verified-is s c some h.verified))

class-missing : (cache : CacheData) (s : ArchiveSubjectData) → IsMissing cache s → archive_class cache s ≡ class.Missing
class-missing cache s h = class-compared cache s false class.Missing h.has_checksum (is-unchanged cache s h.has_checksum h.unchanged)
    (λ c some. ap class_unless (untrue _ (λ e. h.unseen (is-verified s c some e))))

class-changed : (cache : CacheData) (s : ArchiveSubjectData) → IsChanged cache s → archive_class cache s ≡ class.Changed
class-changed cache s (a, h) = class-compared cache s true class.Changed h.has_checksum (changed-some cache s (a, h)) (λ c some. refl)

of-class : (cache : CacheData) (s : ArchiveSubjectData) (c : Class) → IsOfArchiveClass cache s c → archive_class cache s ≡ c
of-class cache s class.Matches h = class-matching cache s h
of-class cache s class.Changed h = class-changed cache s h
of-class cache s class.Missing h = class-missing cache s h
of-class cache s class.NoChecksum h = class-unchecked cache s true h.0 h.1
of-class cache s class.NotCompared h = class-unchecked cache s false h.0 h.1

pub archive-classes-are-exact : ArchiveClassesAreExact
archive-classes-are-exact cache s c = (λ is. subst (IsOfArchiveClass cache s) is (class-so cache s), of-class cache s c)

-- ---- the class of a package by its folders

sourced : (v : VendoredData) (s : Source) → v.content.source ≡ Some s → v.content.source ≢ None
sourced v s is none = true≢false (ap is_some (sym is ∙ none))

empty-is : {X : Type 0} (xs : List X) → (length xs == 0) ≡ true → xs ≡ []
empty-is xs e = nil_from_length xs (eqb-true _ _ e)

is-empty : {X : Type 0} (xs : List X) → xs ≡ [] → (length xs == 0) ≡ true
is-empty xs e = ap (λ ys. length ys == 0) e

sourced-so : (v : VendoredData) → v.content.source ≢ None → IsOfFolderClass v (class_of_sourced v)
sourced-so v has = by (is_unchecked v.content) refl
  where
    by : (b : Bool) → is_unchecked v.content ≡ b → IsOfFolderClass v (if b then class.NoChecksum
        else (if length v.folders == 0 then class.Missing else (if is_as_listed v then class.Matches else class.Changed)))
    by true e = e
    by false e = empty (length v.folders == 0) refl
      where
        compared : IsCompared v.content
        compared = (has, λ t. true≢false (sym t ∙ e))

        empty : (n : Bool) → (length v.folders == 0) ≡ n → IsOfFolderClass v (if n then class.Missing
            else (if is_as_listed v then class.Matches else class.Changed))
        empty true z = (compared, empty-is v.folders z)
        empty false z = quiet (is_as_listed v) refl
          where
            quiet : (q : Bool) → is_as_listed v ≡ q → IsOfFolderClass v (if q then class.Matches else class.Changed)
            quiet true y = (compared, vendored-if-empty v (empty-is _ y))
            quiet false y = (
              compared,
              λ none. true≢false (sym (is-empty v.folders none) ∙ z),
              λ is. true≢false (sym (is-empty _ (empty-if-vendored v is compared.1)) ∙ y),
            )

folder-class-so : (v : VendoredData) → IsOfFolderClass v (folder_class v)
folder-class-so v = by v.content.source refl
  where
    by : (o : Option Source) → v.content.source ≡ o → IsOfFolderClass v (class_by_source v o)
    by None is = is
    by (Some s) is = sourced-so v (sourced v s is)

with-source : (v : VendoredData) (c : Class) → v.content.source ≢ None → class_of_sourced v ≡ c → folder_class v ≡ c
with-source v c has is-it = by v.content.source refl
  where
    by : (o : Option Source) → v.content.source ≡ o → class_by_source v o ≡ c
    by None is = absurd (has is)
    by (Some s) is = is-it

-- the class by three tests
abbrev class_of_tests : Bool → Bool → Bool → Class
class_of_tests unchecked empty quiet = if unchecked then class.NoChecksum
    else (if empty then class.Missing else (if quiet then class.Matches else class.Changed))

compared-class : (v : VendoredData) (n q : Bool) → IsCompared v.content → (length v.folders == 0) ≡ n → is_as_listed v ≡ q
    → folder_class v ≡ class_of_tests false n q
compared-class v n q h is-n is-q = with-source v (class_of_tests false n q) h.0
    (ap (λ (b : Bool). class_of_tests b (length v.folders == 0) (is_as_listed v)) (untrue (is_unchecked v.content) h.1)
    ∙ ap (λ (b : Bool). class_of_tests false b (is_as_listed v)) is-n ∙ ap (λ (b : Bool). class_of_tests false n b) is-q)

registry-has-source : (o : Option Source) → is_of_registry o ≡ true → o ≢ None
registry-has-source None e none = true≢false (sym e)
registry-has-source (Some s) e none = true≢false (ap is_some none)

of-folder-class : (v : VendoredData) (c : Class) → IsOfFolderClass v c → folder_class v ≡ c
of-folder-class v class.Matches h = compared-class v false true h.0 (untrue _ (λ e. h.1.some (empty-is v.folders e)))
    (is-empty _ (empty-if-vendored v h.1 h.0.1))
of-folder-class v class.Changed h = compared-class v false false h.0 (untrue _ (λ e. h.1 (empty-is v.folders e)))
    (untrue _ (λ e. h.2 (vendored-if-empty v (empty-is _ e))))
of-folder-class v class.Missing h = compared-class v true (is_as_listed v) h.0 (is-empty v.folders h.1) refl
of-folder-class v class.NoChecksum h = with-source v class.NoChecksum
    (registry-has-source v.content.source (and_parts (is_of_registry v.content.source) (is_none v.content.checksum) h).0)
    (ap (λ (b : Bool). class_of_tests b (length v.folders == 0) (is_as_listed v)) h)
of-folder-class v class.NotCompared h = ap (class_by_source v) h

pub folder-classes-are-exact : FolderClassesAreExact
folder-classes-are-exact v c = (λ is. subst (IsOfFolderClass v) is (folder-class-so v), of-folder-class v c)

-- ---- whether the counts are clean

-- the tests of clean counts
abbrev clean_tests : Bool → Bool → Bool → Bool → Bool → Bool
clean_tests all changed missing without matches = changed && ((missing && without) || (not all && not matches))

-- what clean tests say: each has what it is compared with, or all is not asked for and one matches
split : (all changed missing without matches : Bool) → clean_tests all changed missing without matches ≡ true
    → (changed ≡ true) × (((missing ≡ true) × (without ≡ true)) ⊎ ((all ≡ false) × (matches ≡ false)))
split all false missing without matches e = absurd (true≢false (sym e))
split all true true true matches e = (refl, inl (refl, refl))
split true true true false matches e = absurd (true≢false (sym e))
split true true false without matches e = absurd (true≢false (sym e))
split false true true false true e = absurd (true≢false (sym e))
split false true true false false e = (refl, inr (refl, refl))
split false true false without true e = absurd (true≢false (sym e))
split false true false without false e = (refl, inr (refl, refl))

is-zero : (n : ℕ) → (n == 0) ≡ true → n ≡ 0
is-zero n e = eqb-true n 0 e

zero-is : (n : ℕ) → n ≡ 0 → (n == 0) ≡ true
zero-is n e = eq-eqb n 0 e

not-zero : (n : ℕ) → (n == 0) ≡ false → n ≢ 0
not-zero n e z = true≢false (sym (zero-is n z) ∙ e)

no-such : (cache : CacheData) (c : Class) → count_by (is_class c) (map (archive_class cache) cache.subjects) ≡ 0
    → (s : ArchiveSubjectData) → Contains cache.subjects s → ¬ IsOfArchiveClass cache s c
no-such cache c zero s there h = none-counted (archive_class cache) c cache.subjects s zero there (of-class cache s c h)

-- one of the packages that can be compared matches
one-of : (cache : CacheData) (s : ArchiveSubjectData) → Contains cache.subjects s → (¬ IsNotCompared s) → (¬ IsChanged cache s) → (¬ IsMissing cache s)
    → (¬ IsOfRegistryUnchecked s.content) → (t : ArchiveSubjectData) × Contains cache.subjects t × IsVerified t
one-of cache s there compared unchanged present checked = by (archive_class cache s) (class-so cache s)
  where
    by : (c : Class) → IsOfArchiveClass cache s c → (t : ArchiveSubjectData) × Contains cache.subjects t × IsVerified t
    by class.Matches h = (s, there, h.verified)
    by class.Changed h = absurd (unchanged h)
    by class.Missing h = absurd (present h)
    by class.NoChecksum h = absurd (checked h)
    by class.NotCompared h = absurd (compared h)

clean-so : (all : Bool) (cache : CacheData) → is_clean all (archive_counts cache) ≡ true → IsCleanOf all cache
clean-so all cache e = by (split all (k.changed == 0) (k.missing == 0) (k.without_checksum == 0) (k.matches == 0) e)
  where
    k : Counts
    k = archive_counts cache

    by : ((k.changed == 0) ≡ true) × ((((k.missing == 0) ≡ true) × ((k.without_checksum == 0) ≡ true)) ⊎ ((all ≡ false) × ((k.matches == 0) ≡ false)))
        → IsCleanOf all cache
    by (changed, inl (missing, without)) = record {
      unchanged = no-such cache class.Changed (is-zero _ changed);
      complete = λ asked s there. (no-such cache class.Missing (is-zero _ missing) s there, no-such cache class.NoChecksum (is-zero _ without) s there);
      one = λ s there compared. one-of cache s there compared (no-such cache class.Changed (is-zero _ changed) s there)
          (no-such cache class.Missing (is-zero _ missing) s there) (no-such cache class.NoChecksum (is-zero _ without) s there);
    }
    by (changed, inr (unasked, matches)) = record {
      unchanged = no-such cache class.Changed (is-zero _ changed);
      complete = λ asked s there. absurd (true≢false (sym asked ∙ unasked));
      one = λ s there compared. let (t, in-it, is) = some-counted (archive_class cache) class.Matches cache.subjects (not-zero _ matches) in
          let h : IsMatching cache t = subst (IsOfArchiveClass cache t) is (class-so cache t) in
          (t, in-it, h.verified);
    }

count-zero : (cache : CacheData) (c : Class) → ((s : ArchiveSubjectData) → Contains cache.subjects s → ¬ IsOfArchiveClass cache s c)
    → count_by (is_class c) (map (archive_class cache) cache.subjects) ≡ 0
count-zero cache c none = count-none (archive_class cache) c cache.subjects (λ s there is. none s there (subst (IsOfArchiveClass cache s) is (class-so cache s)))

-- the tests of packages of which one lacks what it is compared with
lacking : (all : Bool) (cache : CacheData) → IsCleanOf all cache → (c : Class) → ((s : ArchiveSubjectData) → IsOfArchiveClass cache s c → ¬ IsNotCompared s)
    → (all ≡ true → (s : ArchiveSubjectData) → Contains cache.subjects s → ¬ IsOfArchiveClass cache s c)
    → (count_by (is_class c) (map (archive_class cache) cache.subjects) == 0) ≡ false
    → (all ≡ false) × ((count_by (is_class class.Matches) (map (archive_class cache) cache.subjects) == 0) ≡ false)
lacking all cache is c compared none some =
    let (s, there, at) = some-counted (archive_class cache) c cache.subjects (not-zero _ some) in
    let h : IsOfArchiveClass cache s c = subst (IsOfArchiveClass cache s) at (class-so cache s) in
    let (t, in-it, verified) = is.one s there (compared s h) in (
      untrue all (λ asked. none asked s there h),
      untrue _ (λ zero. none-counted (archive_class cache) class.Matches cache.subjects t (is-zero _ zero) in-it
          (class-matching cache t (record { verified = verified; unchanged = is.unchanged t in-it }))),
    )

-- clean tests
join-tests : (all changed missing without matches : Bool) → changed ≡ true → (missing ≡ false → (all ≡ false) × (matches ≡ false))
    → (without ≡ false → (all ≡ false) × (matches ≡ false)) → clean_tests all changed missing without matches ≡ true
join-tests all false missing without matches e m w = absurd (true≢false (sym e))
join-tests all true true true matches e m w = refl
join-tests all true true false matches e m w = ap (λ (b : Bool). not b && not matches) (w refl).0 ∙ ap not (w refl).1
join-tests all true false without matches e m w = ap (λ (b : Bool). not b && not matches) (m refl).0 ∙ ap not (m refl).1

so-clean : (all : Bool) (cache : CacheData) → IsCleanOf all cache → is_clean all (archive_counts cache) ≡ true
so-clean all cache is = join-tests all (k.changed == 0) (k.missing == 0) (k.without_checksum == 0) (k.matches == 0)
    (zero-is _ (count-zero cache class.Changed is.unchanged))
    (lacking all cache is class.Missing (λ s h other. h.has_checksum other.0) (λ asked s there. (is.complete asked s there).0))
    (lacking all cache is class.NoChecksum (λ s h other. true≢false (sym h.1 ∙ other.1)) (λ asked s there. (is.complete asked s there).1))
  where
    k : Counts
    k = archive_counts cache

pub archives-are-clean : ArchivesAreClean
archives-are-clean all cache = (clean-so all cache, so-clean all cache)
