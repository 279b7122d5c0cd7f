-- What `==` of two lockfiles says: one format and metadata, and one key for each package, for the
-- root and for each unused patch.
use Rattle.std.specs.Prelude.{◌≡◌, ◌&&◌, Bool, true, false, ℕ, List, [], ◌∷◌, map, Option, None, Some, option_map, nat_eq, refl}
use Rattle.std.specs.Bool.{Decides}
use Rattle.std.specs.Cmp.{unsigned_Decides}
use Rattle.std.specs.Cmp.Derive.{both_true}
use Rattle.std.specs.Cmp.Lexicographic.{pointwise}
use Rattle.std.specs.FinMap.{entries, same_entries_map}
use Rattle.std.specs.Option.{option_eq}
use Rattle.std.proofs.Common.{ap}
use Rattle.std.proofs.lemmas.Slice.Eq.{slice_eq-Decides}
use Rattle.cargo_lock_parts.specs.Identity.{identity_key, package_key}
use Rattle.cargo_lock_parts.specs.IdentityLaws.{is_same_identity-Decides, is_same_package-Decides}
use Rattle.cargo_lock_references.specs.declared.version.ResolveVersion.{ResolveVersion}
use Rattle.cargo_lock_references.specs.declared.version.ResolveVersion.TheVariants.{V1, V2, V3, V4}
use Rattle.cargo_lock_references.specs.Format.{number_of}
use Rattle.cargo_lock_encoding.specs.Lockfiles.{LockfileData}
use Rattle.cargo_lock.specs.Same.{EqualExactlyByKeys, HasSameKeys, is_same_lockfile, is_same_pair}

and-first : (s t : Bool) → (s && t) ≡ true → s ≡ true
and-first true t h = refl
and-first false t h = cc h

and-second : (s t : Bool) → (s && t) ≡ true → t ≡ true
and-second true t h = h
and-second false t h = cc h

-- lists whose elements are the same in turn have the same keys
pointwise-keys : {A K : Type 0} (E : A → A → Bool) (key : A → K) → ((a b : A) → Decides (E a b) (key a ≡ key b))
    → (xs ys : List A) → pointwise E xs ys ≡ true → map key xs ≡ map key ys
pointwise-keys E key same [] [] h = refl
pointwise-keys E key same [] (y ∷ ys) h = cc h
pointwise-keys E key same (x ∷ xs) [] h = cc h
pointwise-keys E key same (x ∷ xs) (y ∷ ys) h =
    let first = (same x y).0 (and-first _ _ h) in
    let others = pointwise-keys E key same xs ys (and-second _ _ h) in
    λ i. first i ∷ others i

option-keys : {A K : Type 0} (E : A → A → Bool) (key : A → K) → ((a b : A) → Decides (E a b) (key a ≡ key b))
    → (x y : Option A) → option_eq E x y ≡ true → option_map key x ≡ option_map key y
option-keys E key same None None h = refl
option-keys E key same None (Some y) h = cc h
option-keys E key same (Some x) None h = cc h
option-keys E key same (Some x) (Some y) h = ap Some ((same x y).0 h)

-- and the other way round
keys-pointwise : {A K : Type 0} (E : A → A → Bool) (key : A → K) → ((a b : A) → Decides (E a b) (key a ≡ key b))
    → (xs ys : List A) → map key xs ≡ map key ys → pointwise E xs ys ≡ true
keys-pointwise E key same [] [] h = refl
keys-pointwise E key same [] (y ∷ ys) h = cc h
keys-pointwise E key same (x ∷ xs) [] h = cc h
keys-pointwise E key same (x ∷ xs) (y ∷ ys) h =
    both_true ((same x y).1 (cc h)) (keys-pointwise E key same xs ys (cc h))

keys-option : {A K : Type 0} (E : A → A → Bool) (key : A → K) → ((a b : A) → Decides (E a b) (key a ≡ key b))
    → (x y : Option A) → option_map key x ≡ option_map key y → option_eq E x y ≡ true
keys-option E key same None None h = refl
keys-option E key same None (Some y) h = cc h
keys-option E key same (Some x) None h = cc h
keys-option E key same (Some x) (Some y) h = (same x y).1 (cc h)

text-Decides : (x y : List ℕ) → Decides (pointwise nat_eq x y) (x ≡ y)
text-Decides x y = slice_eq-Decides unsigned_Decides x y (pointwise nat_eq x y) refl

pair-Decides : (p q : List ℕ × List ℕ) → Decides (is_same_pair p q) (p ≡ q)
pair-Decides p q = (
  λ h.
      let key = (text-Decides p.0 q.0).0 (and-first _ _ h) in
      let value = (text-Decides p.1 q.1).0 (and-second _ _ h) in
      λ i. (key i, value i),
  λ e. both_true ((text-Decides p.0 q.0).1 (ap (λ r. r.0) e)) ((text-Decides p.1 q.1).1 (ap (λ r. r.1) e)),
)

one-number : (v w : ResolveVersion) → number_of v ≡ number_of w → v ≡ w
one-number V1 V1 e = refl
one-number V1 V2 e = cc e
one-number V1 V3 e = cc e
one-number V1 V4 e = cc e
one-number V2 V1 e = cc e
one-number V2 V2 e = refl
one-number V2 V3 e = cc e
one-number V2 V4 e = cc e
one-number V3 V1 e = cc e
one-number V3 V2 e = cc e
one-number V3 V3 e = refl
one-number V3 V4 e = cc e
one-number V4 V1 e = cc e
one-number V4 V2 e = cc e
one-number V4 V3 e = cc e
one-number V4 V4 e = refl

pub equal_fields : (a b : LockfileData) → is_same_lockfile a b ≡ true → HasSameKeys a b
equal_fields a b h =
    let h1 = and-first _ _ h in
    let h2 = and-first _ _ h1 in
    let h3 = and-first _ _ h2 in
    let list = slice_eq-Decides pair-Decides (entries a.metadata) (entries b.metadata) (pointwise is_same_pair (entries a.metadata) (entries b.metadata)) refl in
    record {
      version = one-number _ _ ((unsigned_Decides _ _).0 (and-first _ _ h3));
      packages = pointwise-keys _ package_key is_same_package-Decides _ _ (and-second _ _ h3);
      root = option-keys _ package_key is_same_package-Decides _ _ (and-second _ _ h2);
      metadata = same_entries_map _ _ (list.0 (and-second _ _ h1));
      patch = pointwise-keys _ identity_key is_same_identity-Decides _ _ (and-second _ _ h);
    }

same_fields : (a b : LockfileData) → HasSameKeys a b → is_same_lockfile a b ≡ true
same_fields a b h =
    let list = slice_eq-Decides pair-Decides (entries a.metadata) (entries b.metadata) (pointwise is_same_pair (entries a.metadata) (entries b.metadata)) refl in
    let version = (unsigned_Decides (number_of a.version) (number_of b.version)).1 (ap number_of h.version) in
    let packages = keys-pointwise _ package_key is_same_package-Decides a.packages b.packages h.packages in
    let root = keys-option _ package_key is_same_package-Decides a.root b.root h.root in
    let metadata = list.1 (ap entries h.metadata) in
    let patch = keys-pointwise _ identity_key is_same_identity-Decides a.patch b.patch h.patch in
    both_true (both_true (both_true (both_true version packages) root) metadata) patch

pub equal_exactly : EqualExactlyByKeys
equal_exactly a b = (equal_fields a b, same_fields a b)
