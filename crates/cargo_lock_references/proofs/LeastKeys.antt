-- The first pair, in the order of the keys, whose key passes a test is that at the least such key.
use Rattle.std.specs.Prelude.{◌≡◌, ◌≢◌, ◌&&◌, T, Bool, true, false, cond, ℕ, List, [], ◌∷◌, Option, Some, None, is_some, option_map, Result, Ok, Err, IfOk, refl}
use Rattle.std.specs.Cmp.{tied_itself}
use Rattle.std.specs.Cmp.Lexicographic.{slice_cmp, nat_list_cmp_total}
use Rattle.std.specs.FinMap.{entries, entries_sorted, get-entries}
use Rattle.std.specs.FinMap.Entries as stored
use Rattle.std.specs.List.{find}
use Rattle.std.specs.Option.{unwrap_or}
use Rattle.std.specs.Ordering.{nat_cmp, eq_by_cmp, is_eq, is_lt}
use Rattle.std.specs.declared.cmp.Ordering.{Ordering}
use Rattle.std.specs.declared.cmp.Ordering.TheVariants.{Less, Equal, Greater}
use Rattle.std.proofs.Common.{ap, subst, sym, ◌∙◌}
use Rattle.semver.specs.Parse.{Parts}
use Rattle.cargo_lock_parts.specs.Checksum.{digest_in, digest_of}
use Rattle.cargo_lock_parts.specs.declared.package.checksum.Checksum.{Checksum}
use Rattle.cargo_lock_references.specs.LeastKey.{ChecksumAtLeastKey, HasNoKey, IsAtLeastKey, IsFoundAtLeastKey}
use Rattle.cargo_lock_references.specs.Metadata.{checksum_in, reads_as}
use Rattle.cargo_lock_parts.specs.Optional.{◌>>=◌}
use Rattle.cargo_lock_references.specs.Records.{Texts}
use Rattle.cargo_lock_references.proofs.Texts.{texts_tie}

abbrev pub order : List ℕ → List ℕ → Ordering
order = slice_cmp nat_cmp

abbrev pub Pairs : Type 0
Pairs = List (List ℕ × List ℕ)

left : (a b : Bool) → T (a && b) → T a
left true b p = tt
left false b p = absurd p

right : (a b : Bool) → T (a && b) → T b
right true b p = p
right false b p = absurd p

is_less : (r : Ordering) → T (is_lt r) → r ≡ Less
is_less Less p = refl
is_less Equal p = absurd p
is_less Greater p = absurd p

is_equal : (r : Ordering) → is_eq r ≡ true → r ≡ Equal
is_equal Less e = cc e
is_equal Equal e = refl
is_equal Greater e = cc e

pub same-key : (j k : List ℕ) → eq_by_cmp order j k ≡ true → j ≡ k
same-key j k e = texts_tie j k (is_equal (order j k) e)

pub own_words-equal : (k : List ℕ) → eq_by_cmp order k k ≡ true
own_words-equal k = ap is_eq (tied_itself nat_list_cmp_total k)

one-value : (x y : List ℕ) → Some x ≡ Some y → x ≡ y
one-value x y e = ap (λ o. unwrap_or o y) e

-- ---- the keys of a list

has-first : (e : List ℕ × List ℕ) (es : Pairs) → is_some (stored.find order e.0 (e ∷ es)) ≡ true
has-first e es = ap (λ b. is_some (cond b (Some e.1) (stored.find order e.0 es))) (own_words-equal e.0)

has-later : (b : Bool) (v : List ℕ) (o : Option (List ℕ)) → is_some o ≡ true → is_some (cond b (Some v) o) ≡ true
has-later true v o h = refl
has-later false v o h = h

below-found : (x k : List ℕ) (es : Pairs) → T (stored.below_all order x es) → is_some (stored.find order k es) ≡ true → order x k ≡ Less
below-found x k [] h f = cc f
below-found x k (e ∷ es) h f =
    elim (eq_by_cmp order k e.0) as (λ b. eq_by_cmp order k e.0 ≡ b → is_some (cond b (Some e.1) (stored.find order k es)) ≡ true → order x k ≡ Less) [
      | true ↦ λ t _. ap (order x) (same-key k e.0 t) ∙ is_less (order x e.0) (left _ _ h)
      | false ↦ λ _ g. below-found x k es (right _ _ h) g
    ] refl f

-- ---- the pair that a walk finds

value_found : (List ℕ → Bool) → Pairs → Option (List ℕ)
value_found test es = find (λ e. test e.0) es >>= λ e. Some e.1

IsLeast : (List ℕ → Bool) → List ℕ → Pairs → Type 0
IsLeast test key es = (k : List ℕ) → is_some (stored.find order k es) ≡ true → test k ≡ true → order k key ≢ Less

value-least : (test : List ℕ → Bool) (key value : List ℕ) (es : Pairs) → T (stored.is_sorted order es)
    → stored.find order key es ≡ Some value → test key ≡ true → IsLeast test key es → value_found test es ≡ Some value
unfolding value_found IsLeast
value-least test key value [] sorted h named least = cc h
value-least test key value (e ∷ es) sorted h named least =
    elim (test e.0) as (λ t. test e.0 ≡ t → (cond t (Some e) (find (λ p. test p.0) es) >>= λ p. Some p.1) ≡ Some value) [
      | true ↦ λ t.
          elim (eq_by_cmp order key e.0) as (λ b. cond b (Some e.1) (stored.find order key es) ≡ Some value → Some e.1 ≡ Some value) [
            | true ↦ λ g. g
            | false ↦ λ g. absurd (least e.0 (has-first e es) t (below-found e.0 key es (left _ _ sorted) (ap is_some g)))
          ] h
      | false ↦ λ t.
          elim (eq_by_cmp order key e.0) as (λ b. eq_by_cmp order key e.0 ≡ b → cond b (Some e.1) (stored.find order key es) ≡ Some value → (find (λ p. test p.0) es >>= λ p. Some p.1) ≡ Some value) [
            | true ↦ λ s _. cc (sym named ∙ ap test (same-key key e.0 s) ∙ t)
            | false ↦ λ _ g. value-least test key value es (right _ _ sorted) g named
                (λ k f. least k (has-later (eq_by_cmp order k e.0) e.1 (stored.find order k es) f))
          ] refl h
    ] refl

none-found : (test : List ℕ → Bool) (es : Pairs) → ((k : List ℕ) → is_some (stored.find order k es) ≡ true → test k ≡ false)
    → find (λ e. test e.0) es ≡ None
none-found test [] h = refl
none-found test (e ∷ es) h =
    ap (λ b. cond b (Some e) (find (λ p. test p.0) es)) (h e.0 (has-first e es))
    ∙ none-found test es (λ k f. h k (has-later (eq_by_cmp order k e.0) e.1 (stored.find order k es) f))

digest-of : (o : Option (List ℕ × List ℕ)) (value : List ℕ) → (o >>= λ e. Some e.1) ≡ Some value → (o >>= λ e. digest_in e.1) ≡ digest_in value
digest-of None value h = cc h
digest-of (Some e) value h = ap digest_in (one-value e.1 value h)

at-least : (m : Texts) (name : List ℕ) (version : Parts) (value : List ℕ) → IsAtLeastKey m name version value → checksum_in m name version ≡ digest_in value
unfolding checksum_in value_found IsLeast
at-least m name version value h =
    digest-of (find (λ e. reads_as name version e.0) (entries m)) value
    (value-least (reads_as name version) h.key value (entries m) (entries_sorted m) (sym (get-entries m h.key) ∙ h.holds) h.named
    (λ k f. h.least k (ap is_some (get-entries m k) ∙ f)))

no-key : (m : Texts) (name : List ℕ) (version : Parts) → HasNoKey m name version → checksum_in m name version ≡ None
unfolding checksum_in
no-key m name version h =
    ap (λ o. o >>= λ e. digest_in e.1)
    (none-found (reads_as name version) (entries m) (λ k f. h k (ap is_some (get-entries m k) ∙ f)))

pub checksum_at_least_key : ChecksumAtLeastKey
checksum_at_least_key m name version = (λ value h. at-least m name version value h, λ h. no-key m name version h)

-- what is said of a computed checksum holds of a call's answer
pub least-of : {E : Type 0} (m : Texts) (name : List ℕ) (version : Parts) (r : Result (Option Checksum) E)
    → IfOk r (λ found. option_map digest_of found ≡ checksum_in m name version)
    → IfOk r (λ found. IsFoundAtLeastKey m name version (option_map digest_of found))
least-of m name version (Ok found) h = subst (IsFoundAtLeastKey m name version) (sym h) (checksum_at_least_key m name version)
least-of m name version (Err e) h = tt
