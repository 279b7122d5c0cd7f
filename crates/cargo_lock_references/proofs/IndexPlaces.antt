-- What is found by the places of names, and of names and versions.
use Rattle.std.proofs.Common.{◌≡◌, inl, inr, ◌+◌, ℕ, List, [], ◌∷◌, ◌++◌, Option, Some, None, Bool, true, false, ◌&&◌, ◌==◌, cond, if◌then◌else◌, map, length, slice_get, count_by, refl, ap, ◌∙◌, sym, arith, append_assoc}
use Rattle.std.proofs.lemmas.Grind.{common_steps}
use Rattle.std.specs.List.{find}
use Rattle.std.specs.Cmp.{eq_by_cmp_equiv}
use Rattle.std.specs.BTreeMap.{is_at}
use Rattle.std.proofs.lemmas.Bool.{cases_Bool, false≢true, and_parts}
use Rattle.std.proofs.lemmas.List.Sums.{sum_by-cons}
use Rattle.semver.specs.Parse.{Parts}
use Rattle.cargo_lock_parts.specs.Identity.{Identity}
use Rattle.cargo_lock_parts.specs.PartialIdentity.{PartialIdentity, PartialKey, is_same_partial_identity, is_same_partial_identity-Decides, name_alone, name_and_version, partial_identity_cmp, partial_identity_total, partial_key}
use Rattle.cargo_lock_index.specs.Near.{first_from, first_place, is_only}
use Rattle.cargo_lock_references.specs.WrittenReference.{has_name_and_version, has_name, exactly_one}
use Rattle.cargo_lock_references.specs.Index.{is_of, item_at, names_of, versions_of}
use Rattle.cargo_lock_references.specs.Reference.{Reference}
use Rattle.cargo_lock_references.specs.ResolutionSearch.{fits, same_parts, same_text}
use Rattle.cargo_lock_references.proofs.ResolvesToLemmas.{same_parts-refl, same_parts-yes, same_text-refl, same_text-yes}

-- ---- keys that tie

-- the versions that are meant tie
abbrev pub same_version : Option Parts → Option Parts → Bool
same_version None None = true
same_version None (Some w) = false
same_version (Some v) None = false
same_version (Some v) (Some w) = same_parts v w

same_version-yes : (v w : Option Parts) → same_version v w ≡ true → v ≡ w
same_version-yes None None h = refl
same_version-yes None (Some w) h = absurd (false≢true h)
same_version-yes (Some v) None h = absurd (false≢true h)
same_version-yes (Some v) (Some w) h = ap Some (same_parts-yes v w h)

same_version-refl : (v : Option Parts) → same_version v v ≡ true
same_version-refl None = refl
same_version-refl (Some v) = same_parts-refl v

abbrev pub key_at : List ℕ → Option Parts → PartialIdentity
key_at name version = record { name = name; version = version; source = None }

keys-yes : (n m : List ℕ) (v w : Option Parts) → (same_text n m && same_version v w) ≡ true → key_at n v ≡ key_at m w
keys-yes n m v w h =
    let (a, c) = and_parts _ _ h in
    let e : n ≡ m = same_text-yes n m a in
    let f : v ≡ w = same_version-yes v w c in
    λ i. record { name = e i; version = f i; source = None }

keys-same : (n m : List ℕ) (v w : Option Parts) → partial_key (key_at n v) ≡ partial_key (key_at m w) → (same_text n m && same_version v w) ≡ true
keys-same n m v w h =
    let e : n ≡ m = ap (λ (k : PartialKey). k.name) h in
    let f : v ≡ w = ap (λ (k : PartialKey). k.version) h in
    ap (λ t. same_text n t && same_version v w) (sym e)
    ∙ ap (λ x. same_text n n && same_version v x) (sym f)
    ∙ ap (λ b. b && same_version v v) (same_text-refl n)
    ∙ same_version-refl v

tied : (n m : List ℕ) (v w : Option Parts) (b : Bool) → (same_text n m && same_version v w) ≡ b → is_at (partial_identity_cmp (key_at n v)) (key_at m w) ≡ b
tied n m v w true h =
    (is_same_partial_identity-Decides (key_at n v) (key_at m w)).1 (ap partial_key (keys-yes n m v w h))
tied n m v w false h = elim (cases_Bool (is_same_partial_identity (key_at n v) (key_at m w))) [
  | inl t ↦ absurd (false≢true (sym h ∙ keys-same n m v w ((is_same_partial_identity-Decides (key_at n v) (key_at m w)).0 t)))
  | inr f ↦ f
]

-- a key ties with that of an identity where the identity has its parts
like : (n m : List ℕ) (v w : Option Parts) → is_same_partial_identity (key_at n v) (key_at m w) ≡ (same_text m n && same_version w v)
like n m v w =
    (eq_by_cmp_equiv partial_identity_total).symm (key_at n v) (key_at m w)
    ∙ tied m n w v (same_text m n && same_version w v) refl

and-true : (b : Bool) → (b && true) ≡ b
and-true true = refl
and-true false = refl

like-name : (n : List ℕ) (i : Identity) → is_same_partial_identity (name_alone n) (name_alone i.name) ≡ has_name n i
like-name n i = like n i.name None None ∙ and-true (same_text i.name n)

like-version : (n : List ℕ) (v : Parts) (i : Identity) → is_same_partial_identity (name_and_version n v) (name_and_version i.name i.version) ≡ has_name_and_version n v i
like-version n v i = like n i.name (Some v) (Some i.version)

-- ---- one alone

count-like : {X : Type 0} (f : X → PartialIdentity) (g : X → Identity) (p : PartialIdentity → Bool) (q : Identity → Bool) → ((x : X) → p (f x) ≡ q (g x))
    → (xs : List X) → count_by p (map f xs) ≡ count_by q (map g xs)
count-like f g p q same [] = refl
count-like f g p q same (x ∷ xs) =
    sum_by-cons (λ k. cond (p k) 1 0) (f x) (map f xs)
    ∙ ap (λ b. cond b 1 0 + count_by p (map f xs)) (same x)
    ∙ ap (λ n. cond (q (g x)) 1 0 + n) (count-like f g p q same xs)
    ∙ sym (sum_by-cons (λ k. cond (q k) 1 0) (g x) (map g xs))

pub only-name : {X : Type 0} (identity : X → Identity) (name : List ℕ) (xs : List X) (key : PartialIdentity) (b : Bool)
    → key ≡ name_alone name → b ≡ is_only key (names_of identity xs) → b ≡ exactly_one (has_name name) (map identity xs)
only-name {X} identity name xs key b named is =
    is ∙ ap (λ k. is_only k (names_of identity xs)) named
    ∙ ap (λ n. n == 1) (count-like (λ (x : X). name_alone (identity x).name) identity (is_same_partial_identity (name_alone name)) (has_name name) (λ x. like-name name (identity x)) xs)

pub only-version : {X : Type 0} (identity : X → Identity) (name : List ℕ) (version : Parts) (xs : List X) (key : PartialIdentity) (b : Bool)
    → key ≡ name_and_version name version → b ≡ is_only key (versions_of identity xs) → b ≡ exactly_one (has_name_and_version name version) (map identity xs)
only-version {X} identity name version xs key b named is =
    is ∙ ap (λ k. is_only k (versions_of identity xs)) named
    ∙ ap (λ n. n == 1) (count-like (λ (x : X). name_and_version (identity x).name (identity x).version) identity (is_same_partial_identity (name_and_version name version)) (has_name_and_version name version) (λ x. like-version name version (identity x)) xs)

-- ---- the first

at_length : {X : Type 0} (ys : List X) (x : X) (xs : List X) → slice_get (ys ++ x ∷ xs) (length ys) ≡ Some x
at_length [] x xs = refl
at_length (y ∷ ys) x xs = at_length ys x xs

first-or : {X : Type 0} (b c : Bool) (i : ℕ) (x : X) (all : List X) (o : Option ℕ) (f : Option X) → b ≡ c → slice_get all i ≡ Some x → item_at all o ≡ f
    → item_at all (if b then Some i else o) ≡ cond c (Some x) f
first-or true true i x all o f same at e = at
first-or true false i x all o f same at e = absurd (false≢true (sym same))
first-or false true i x all o f same at e = absurd (false≢true same)
first-or false false i x all o f same at e = e

find-from : {X : Type 0} (f : X → PartialIdentity) (p : PartialIdentity → Bool) (q : X → Bool) → ((x : X) → p (f x) ≡ q x)
    → (ys xs : List X) → item_at (ys ++ xs) (first_from p (length ys) (map f xs)) ≡ find q xs
find-from f p q same ys [] = refl
find-from {X} f p q same ys (x ∷ xs) =
    let n : length (ys ++ x ∷ []) ≡ length ys + 1 = grind (arith, common_steps) in
    let rest : item_at (ys ++ x ∷ xs) (first_from p (length ys + 1) (map f xs)) ≡ find q xs =
    ap (λ (zs : List X). item_at zs (first_from p (length ys + 1) (map f xs))) (sym (append_assoc ys (x ∷ []) xs))
    ∙ ap (λ (k : ℕ). item_at ((ys ++ x ∷ []) ++ xs) (first_from p k (map f xs))) (sym n)
    ∙ find-from f p q same (ys ++ x ∷ []) xs in
    first-or (p (f x)) (q x) (length ys) x (ys ++ x ∷ xs) (first_from p (length ys + 1) (map f xs)) (find q xs) (same x) (at_length ys x xs) rest

pub first-name : {X : Type 0} (identity : X → Identity) (name : List ℕ) (version : Option Parts) (xs : List X) (key : PartialIdentity) (o : Option ℕ)
    → key ≡ name_alone name → version ≡ None → o ≡ first_place key (names_of identity xs) → item_at xs o ≡ find (λ x. is_of name version (identity x)) xs
first-name {X} identity name version xs key o named none is =
    ap (item_at xs) (is ∙ ap (λ k. first_place k (names_of identity xs)) named)
    ∙ find-from (λ (x : X). name_alone (identity x).name) (is_same_partial_identity (name_alone name)) (λ x. is_of name None (identity x)) (λ x. like name (identity x).name None None) [] xs
    ∙ ap (λ (v : Option Parts). find (λ x. is_of name v (identity x)) xs) (sym none)

pub first-version : {X : Type 0} (identity : X → Identity) (name : List ℕ) (version : Option Parts) (v : Parts) (xs : List X) (key : PartialIdentity) (o : Option ℕ)
    → key ≡ name_and_version name v → version ≡ Some v → o ≡ first_place key (versions_of identity xs) → item_at xs o ≡ find (λ x. is_of name version (identity x)) xs
first-version {X} identity name version v xs key o named some is =
    ap (item_at xs) (is ∙ ap (λ k. first_place k (versions_of identity xs)) named)
    ∙ find-from (λ (x : X). name_and_version (identity x).name (identity x).version) (is_same_partial_identity (name_and_version name v)) (λ x. is_of name (Some v) (identity x)) (λ x. like-version name v (identity x)) [] xs
    ∙ ap (λ (w : Option Parts). find (λ x. is_of name w (identity x)) xs) (sym some)

pub fit-first : {X : Type 0} (identity : X → Identity) (f : Reference) (name : List ℕ) (version : Option Parts) (xs : List X) (o r : Option X)
    → name ≡ f.name → version ≡ f.version → o ≡ find (λ x. is_of name version (identity x)) xs → r ≡ o → r ≡ find (λ x. fits f (identity x)) xs
fit-first identity f name version xs o r named versioned found is =
    is ∙ found
    ∙ ap (λ (n : List ℕ). find (λ x. is_of n version (identity x)) xs) named
    ∙ ap (λ (v : Option Parts). find (λ x. is_of f.name v (identity x)) xs) versioned
