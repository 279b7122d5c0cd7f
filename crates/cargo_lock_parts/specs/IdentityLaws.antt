-- The orders of dependencies and of packages are total, and what ties has one key.
use Rattle.std.specs.Prelude.{◌≡◌, true, List, [], ◌∷◌, ◌++◌, map, Option, Some, None, option_map}
use Rattle.std.specs.Prelude.{ℕ, refl}
use Rattle.std.specs.Option.{option_cmp}
use Rattle.std.specs.declared.cmp.Ordering.{Ordering}
use Rattle.std.specs.declared.cmp.Ordering.TheVariants.{Less, Equal, Greater}
use Rattle.std.specs.Ordering.{on, then_cmp, ordering_then, is_eq, eq_by_cmp}
use Rattle.std.specs.Bool.{Decides}
use Rattle.std.specs.Cmp.{Equal-is, IsEquivalence, IsTotalOrder, eq_by_cmp_equiv, on_total}
use Rattle.std.specs.Cmp.{then_total, nat_cmp_total}
use Rattle.std.specs.Cmp.Lexicographic.{slice_cmp, lists_equiv, lists_total, nat_list_cmp_total}
use Rattle.std.specs.Cmp.Lexicographic.{options_total}
use Rattle.std.specs.FinMap.{IsAntisymmetric, nat_cmp-IsAntisymmetric, slice_cmp-IsAntisymmetric}
use Rattle.std.specs.List.{flat_map}
use Rattle.std.proofs.lemmas.List.{length-map}
use Rattle.std.specs.Hash.{HashWrites}
use Rattle.std.specs.Hash as fed
use Rattle.std.proofs.Common.{sym, ◌∙◌, ap, subst}
use Rattle.std.proofs.lemmas.Cmp.{tied_itself}
use Rattle.semver.specs.OrderLaws.{build-anti, build_total, pre-anti, pre_total}
use Rattle.semver.specs.Parse.{Parts}
use Rattle.cargo_lock_parts.specs.Source.{Source}
use Rattle.cargo_lock_parts.specs.SourceKey.{Key, key_of, key_cmp, key_hash, source_cmp, text_cmp}
use Rattle.cargo_lock_parts.specs.SourceLaws.{key_same, key_total, source_total}
use Rattle.cargo_lock_parts.specs.Identity.{Identity, PackageData, IdentityKey, PackageKey}
use Rattle.cargo_lock_parts.specs.Identity.{identity_of, identity_key, package_key}
use Rattle.cargo_lock_parts.specs.IdentityOrder.{version_cmp, identity_cmp, package_cmp}
use Rattle.cargo_lock_parts.specs.IdentityOrder.{by_name_version_source}
use Rattle.cargo_lock_parts.specs.IdentityOrder.{is_same_identity, is_same_package, is_same_patch}
use Rattle.cargo_lock_parts.specs.IdentityOrder.{version_hash, source_hash, identity_hash}
use Rattle.cargo_lock_parts.specs.IdentityOrder.{package_hash}

-- ---- the orders are total

-- the order of versions is total
pub version_total : IsTotalOrder version_cmp
version_total =
    then_total (on_total (λ (v : Parts). v.0) nat_cmp_total)
    (then_total (on_total (λ (v : Parts). v.1) nat_cmp_total)
    (then_total (on_total (λ (v : Parts). v.2) nat_cmp_total)
    (then_total (on_total (λ (v : Parts). v.3) pre_total)
    (on_total (λ (v : Parts). v.4) build_total))))

-- the order by name, version and source is total where those of versions and of sources are
pub by_name_version_source-total : {X V S : Type 0}
    (name : X → List ℕ) (version : X → V) (source : X → Option S)
    {version_order : V → V → Ordering} {source_order : S → S → Ordering}
    → IsTotalOrder version_order → IsTotalOrder source_order
    → IsTotalOrder (by_name_version_source name version source version_order source_order)
by_name_version_source-total name version source versions sources = then_total (then_total
    (on_total name nat_list_cmp_total)
    (on_total version versions))
    (on_total source (options_total sources))

-- the order of identities is total
pub identity_total : IsTotalOrder identity_cmp
identity_total = by_name_version_source-total (λ (d : Identity). d.name)
    (λ (d : Identity). d.version) (λ (d : Identity). d.source) version_total source_total

-- the order of packages is total
pub package_total : IsTotalOrder package_cmp
package_total = then_total (then_total (then_total
    (on_total identity_of identity_total)
    (on_total (λ (p : PackageData). p.checksum) (options_total nat_list_cmp_total)))
    (on_total (λ (p : PackageData). p.dependencies) (lists_total identity_total)))
    (on_total (λ (p : PackageData). p.replace) (options_total identity_total))

-- equality of unused patches is an equivalence
pub patch_equivalence : IsEquivalence is_same_patch
patch_equivalence = lists_equiv (eq_by_cmp_equiv identity_total)

-- ---- only one key ties

-- where two comparisons in a row tie, the first one ties
pub tied-first : (r s : Ordering) → ordering_then r s ≡ Equal → r ≡ Equal
tied-first Less s e = cc e
tied-first Equal s e = refl
tied-first Greater s e = cc e

-- and so does the second one
pub tied-second : (r s : Ordering) → ordering_then r s ≡ Equal → s ≡ Equal
tied-second Less s e = cc e
tied-second Equal s e = e
tied-second Greater s e = cc e

-- where three comparisons in a row tie, each one ties
pub tied-three : (r s t : Ordering) → ordering_then (ordering_then r s) t ≡ Equal
    → (r ≡ Equal) × (s ≡ Equal) × (t ≡ Equal)
tied-three r s t e =
    let front = tied-first _ _ e in
    (tied-first _ _ front, tied-second _ _ front, tied-second _ _ e)

-- values that compare as their keys do are the same exactly where their keys are
pub by_keys-Decides : {X K : Type 0} (C : X → X → Ordering) (R : K → K → Ordering) (key : X → K)
    → IsTotalOrder R → IsAntisymmetric R → ((a b : X) → C a b ≡ R (key a) (key b))
    → (a b : X) → Decides (eq_by_cmp C a b) (key a ≡ key b)
by_keys-Decides C R key total anti same a b = (
  λ h. anti _ _ (sym (same a b) ∙ (Equal-is (C a b)).0 h),
  λ e. ap is_eq (same a b ∙ subst (λ k. R (key a) k ≡ Equal) e (tied_itself total (key a))),
)

-- texts that tie are one
pub text_cmp-anti : IsAntisymmetric text_cmp
text_cmp-anti = slice_cmp-IsAntisymmetric nat_cmp-IsAntisymmetric

-- versions that tie are one
pub version_cmp-anti : IsAntisymmetric version_cmp
version_cmp-anti x y e =
    let e1 = tied-second _ _ e in
    let e2 = tied-second _ _ e1 in
    let e3 = tied-second _ _ e2 in
    let major = nat_cmp-IsAntisymmetric x.0 y.0 (tied-first _ _ e) in
    let minor = nat_cmp-IsAntisymmetric x.1 y.1 (tied-first _ _ e1) in
    let patch = nat_cmp-IsAntisymmetric x.2 y.2 (tied-first _ _ e2) in
    let pre = pre-anti x.3 y.3 (tied-first _ _ e3) in
    let build = build-anti x.4 y.4 (tied-second _ _ e3) in
    λ i. (major i, minor i, patch i, pre i, build i)

-- keys that tie are one
pub key_cmp-anti : IsAntisymmetric key_cmp
key_cmp-anti j k e = key_same j k (ap is_eq e)

-- the order of keys, where there may be none
pub option_cmp-anti : {K : Type 0} {R : K → K → Ordering}
    → IsAntisymmetric R → IsAntisymmetric (option_cmp R)
option_cmp-anti anti None None e = refl
option_cmp-anti anti None (Some y) e = cc e
option_cmp-anti anti (Some x) None e = cc e
option_cmp-anti anti (Some x) (Some y) e = ap Some (anti x y e)

-- a comparison through a function
pub slice_cmp-by : {K J : Type 0} (f : K → J) (C : K → K → Ordering) (R : J → J → Ordering)
    → ((x y : K) → C x y ≡ R (f x) (f y)) → (xs ys : List K)
    → slice_cmp C xs ys ≡ slice_cmp R (map f xs) (map f ys)
slice_cmp-by f C R same [] [] = refl
slice_cmp-by f C R same [] (y ∷ ys) = refl
slice_cmp-by f C R same (x ∷ xs) [] = refl
slice_cmp-by f C R same (x ∷ xs) (y ∷ ys) =
    λ i. ordering_then (same x y i) (slice_cmp-by f C R same xs ys i)

-- values that may be absent compare by the keys that their values compare by
pub option_cmp-by : {K J : Type 0} (f : K → J) (C : K → K → Ordering) (R : J → J → Ordering)
    → ((x y : K) → C x y ≡ R (f x) (f y)) → (x y : Option K)
    → option_cmp C x y ≡ option_cmp R (option_map f x) (option_map f y)
option_cmp-by f C R same None None = refl
option_cmp-by f C R same None (Some y) = refl
option_cmp-by f C R same (Some x) None = refl
option_cmp-by f C R same (Some x) (Some y) = same x y

-- ---- identities

identity_key_cmp : IdentityKey → IdentityKey → Ordering
identity_key_cmp = by_name_version_source (λ k. k.name) (λ k. k.version) (λ k. k.source)
    version_cmp key_cmp

identity_key-total : IsTotalOrder identity_key_cmp
unfolding identity_key_cmp
identity_key-total = by_name_version_source-total (λ (k : IdentityKey). k.name)
    (λ (k : IdentityKey). k.version) (λ (k : IdentityKey). k.source) version_total key_total

identity_key-anti : IsAntisymmetric identity_key_cmp
unfolding identity_key_cmp
identity_key-anti j k e =
    let tied = tied-three _ _ _ e in
    let name = text_cmp-anti j.name k.name tied.0 in
    let version = version_cmp-anti j.version k.version tied.1 in
    let source = option_cmp-anti key_cmp-anti j.source k.source tied.2 in
    λ i. record { name = name i; version = version i; source = source i }

identity_cmp-key : (a b : Identity) → identity_cmp a b
    ≡ identity_key_cmp (identity_key a) (identity_key b)
unfolding identity_key_cmp
identity_cmp-key a b =
    ap (ordering_then _) (option_cmp-by key_of source_cmp key_cmp (λ x y. refl) a.source b.source)

-- identities are the same exactly where their keys are
pub is_same_identity-Decides : (a b : Identity)
    → Decides (is_same_identity a b) (identity_key a ≡ identity_key b)
is_same_identity-Decides = by_keys-Decides identity_cmp identity_key_cmp identity_key
    identity_key-total identity_key-anti identity_cmp-key

-- ---- packages

package_key_cmp : PackageKey → PackageKey → Ordering
package_key_cmp = then_cmp (then_cmp (then_cmp
    (on (λ k. k.identity) identity_key_cmp)
    (on (λ k. k.checksum) (option_cmp text_cmp)))
    (on (λ k. k.dependencies) (slice_cmp identity_key_cmp)))
    (on (λ k. k.replace) (option_cmp identity_key_cmp))

package_key-total : IsTotalOrder package_key_cmp
unfolding package_key_cmp
package_key-total = then_total (then_total (then_total
    (on_total (λ (k : PackageKey). k.identity) identity_key-total)
    (on_total (λ (k : PackageKey). k.checksum) (options_total nat_list_cmp_total)))
    (on_total (λ (k : PackageKey). k.dependencies) (lists_total identity_key-total)))
    (on_total (λ (k : PackageKey). k.replace) (options_total identity_key-total))

package_key-anti : IsAntisymmetric package_key_cmp
unfolding package_key_cmp
package_key-anti j k e =
    let e1 = tied-first _ _ e in
    let e2 = tied-first _ _ e1 in
    let identity = identity_key-anti j.identity k.identity (tied-first _ _ e2) in
    let checksum = option_cmp-anti text_cmp-anti j.checksum k.checksum (tied-second _ _ e2) in
    let dependencies = slice_cmp-IsAntisymmetric identity_key-anti j.dependencies k.dependencies
    (tied-second _ _ e1) in
    let replace = option_cmp-anti identity_key-anti j.replace k.replace (tied-second _ _ e) in
    λ i. record {
      identity = identity i;
      checksum = checksum i;
      dependencies = dependencies i;
      replace = replace i;
    }

package_cmp-key : (a b : PackageData) → package_cmp a b
    ≡ package_key_cmp (package_key a) (package_key b)
unfolding package_key_cmp
package_cmp-key a b =
    let identity = identity_cmp-key (identity_of a) (identity_of b) in
    let checksum = option_cmp text_cmp a.checksum b.checksum in
    let dependencies = slice_cmp-by identity_key identity_cmp identity_key_cmp identity_cmp-key
    a.dependencies b.dependencies in
    let replace = option_cmp-by identity_key identity_cmp identity_key_cmp identity_cmp-key
    a.replace b.replace in
    λ i. ordering_then (ordering_then (ordering_then (identity i) checksum) (dependencies i))
    (replace i)

-- packages are the same exactly where their keys are
pub is_same_package-Decides : (a b : PackageData)
    → Decides (is_same_package a b) (package_key a ≡ package_key b)
is_same_package-Decides = by_keys-Decides package_cmp package_key_cmp package_key
    package_key-total package_key-anti package_cmp-key

-- ---- what is the same feeds a hasher alike

source_writes : Option Key → HashWrites
source_writes k = fed.option key_hash k

source_hash-key : (s : Option Source)
    → fed.option source_hash s ≡ source_writes (option_map key_of s)
unfolding source_writes
source_hash-key None = refl
source_hash-key (Some s) = refl

identity_writes : IdentityKey → HashWrites
identity_writes k = fed.str k.name ++ version_hash k.version ++ source_writes k.source

identity_hash-key : (d : Identity) → identity_hash d ≡ identity_writes (identity_key d)
unfolding identity_writes
identity_hash-key d =
    ap (λ w. fed.str d.name ++ version_hash d.version ++ w) (source_hash-key d.source)

-- identities that tie feed a hasher alike
pub identity_alike : (a b : Identity)
    → is_same_identity a b ≡ true → identity_hash a ≡ identity_hash b
identity_alike a b h =
    let same = (is_same_identity-Decides a b).0 h in
    identity_hash-key a ∙ ap identity_writes same ∙ sym (identity_hash-key b)

-- lists whose items have one key feed a hasher alike
items_writes : (xs ys : List Identity) → map identity_key xs ≡ map identity_key ys
    → fed.slice identity_hash xs ≡ fed.slice identity_hash ys
items_writes xs ys e = slice_key xs ∙ ap (fed.slice identity_writes) e ∙ sym (slice_key ys)
  where
    each : (zs : List Identity)
        → flat_map identity_hash zs ≡ flat_map identity_writes (map identity_key zs)
    each [] = refl
    each (z ∷ zs) = λ i. identity_hash-key z i ++ each zs i

    slice_key : (zs : List Identity)
        → fed.slice identity_hash zs ≡ fed.slice identity_writes (map identity_key zs)
    slice_key zs = λ i. fed.usize (sym (length-map zs identity_key) i) ++ each zs i

-- packages that tie feed a hasher alike
pub package_alike : (a b : PackageData)
    → is_same_package a b ≡ true → package_hash a ≡ package_hash b
package_alike a b h =
    let same = (is_same_package-Decides a b).0 h in
    let identity : identity_key (identity_of a) ≡ identity_key (identity_of b) =
    ap (λ (k : PackageKey). k.identity) same in
    let own = identity_hash-key (identity_of a) ∙ ap identity_writes identity
    ∙ sym (identity_hash-key (identity_of b)) in
    let listed = items_writes a.dependencies b.dependencies
    (ap (λ (k : PackageKey). k.dependencies) same) in
    λ i. own i ++ listed i
