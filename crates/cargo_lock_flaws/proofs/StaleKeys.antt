-- Which keys of the metadata are stale.
use Rattle.std.proofs.Common.{◌≡◌, ◌≢◌, ◌↔◌, ◌&&◌, inl, inr, ℕ, Bool, true, false, cond, not, List, [], ◌∷◌, map, Some, None, refl, sym, ap, subst, ◌∙◌, T, nat_cmp, Less}
use Rattle.std.specs.Cmp.{Equal-is}
use Rattle.std.specs.Cmp.Lexicographic.{slice_cmp, nat_list_cmp_total}
use Rattle.std.specs.FinMap.{entries, entries_sorted, find, get, get-entries, is_sorted}
use Rattle.std.specs.FinMap.Entries.{below_all}
use Rattle.std.specs.List.{Contains, filter}
use Rattle.std.specs.Ordering.{eq_by_cmp, is_eq, is_lt}
use Rattle.std.specs.declared.cmp.Ordering.{Ordering}
use Rattle.std.specs.declared.cmp.Ordering.TheVariants.{Equal, Greater}
use Rattle.std.proofs.lemmas.Bool.{and_parts, cases_Bool, false≢true, not-true}
use Rattle.std.proofs.lemmas.Cmp.{tied_itself}
use Rattle.std.proofs.lemmas.Option.{same_Some}
use Rattle.cargo_lock_references.specs.declared.version.ResolveVersion.TheVariants.{V1, V2}
use Rattle.cargo_lock_references.specs.Metadata.{is_checksum, metadata_of}
use Rattle.cargo_lock_references.specs.Records.{Texts}
use Rattle.cargo_lock_references.specs.ResolutionSearch.{same_text}
use Rattle.cargo_lock_references.specs.WrittenMetadata.{IsOfPackage}
use Rattle.cargo_lock_references.proofs.ResolvesToLemmas.{same_text-Decides}
use Rattle.cargo_lock_references.proofs.Texts.{and-first, and-second, texts_tie}
use Rattle.cargo_lock_references.proofs.WrittenMetadata.{no_checksum_keys}
use Rattle.lists.proofs.Members.{contains-cases, first-in, in-kept, in-map, kept-in, later-in, map-in, none-in}
use Rattle.cargo_lock_flaws.specs.Stale.{StaleKeysAreExact, is_of_checksum, no_checksum}

-- ---- members of lists

filtered : {X : Type 0} (p : X → Bool) (xs : List X) (y : X) → Contains (filter p xs) y ↔ (Contains xs y × (p y ≡ true))
filtered p xs y = (kept-in p xs y, λ h. in-kept p xs y h.0 h.1)

mapped : {X Y : Type 0} (f : X → Y) (xs : List X) (y : Y) → Contains (map f xs) y ↔ ((x : X) × Contains xs x × (f x ≡ y))
mapped f xs y = (map-in f xs y, λ h. subst (λ z. Contains (map f xs) z) h.2 (in-map f xs h.0 h.1))

-- ---- pairs of a map

less : (o : Ordering) → T (is_lt o) → o ≡ Less
less Less p = refl
less Equal p = absurd p
less Greater p = absurd p

below-member : (x : List ℕ) (es : List (List ℕ × List ℕ)) (e : List ℕ × List ℕ) → T (below_all (slice_cmp nat_cmp) x es) → Contains es e → slice_cmp nat_cmp x e.0 ≡ Less
below-member x [] e h c = absurd (none-in e c)
below-member x (d ∷ ds) e h c = elim (contains-cases d ds e c) [
  | inl same ↦ ap (λ (z : List ℕ × List ℕ). slice_cmp nat_cmp x z.0) (sym same) ∙ less (slice_cmp nat_cmp x d.0) (and-first _ _ h)
  | inr later ↦ below-member x ds e (and-second _ _ h) later
]

apart : (o : Ordering) → o ≡ Less → o ≡ Equal → ⊥
apart o a b = cc (a, b)

found : (es : List (List ℕ × List ℕ)) → T (is_sorted (slice_cmp nat_cmp) es) → (k v : List ℕ)
    → (find (slice_cmp nat_cmp) k es ≡ Some v) ↔ Contains es (k, v)
found [] sorted k v = (λ e. cc e, λ c. absurd (none-in (k, v) c))
found (d ∷ ds) sorted k v = go (eq_by_cmp (slice_cmp nat_cmp) k d.0) refl (found ds (and-second _ _ sorted) k v)
  where
    go : (b : Bool) → eq_by_cmp (slice_cmp nat_cmp) k d.0 ≡ b → (find (slice_cmp nat_cmp) k ds ≡ Some v) ↔ Contains ds (k, v)
        → (cond b (Some d.1) (find (slice_cmp nat_cmp) k ds) ≡ Some v) ↔ Contains (d ∷ ds) (k, v)
    go true tie rest =
        let key : k ≡ d.0 = texts_tie k d.0 ((Equal-is (slice_cmp nat_cmp k d.0)).0 tie) in (
          λ e. let value = same_Some d.1 v e in
              subst (λ (z : List ℕ × List ℕ). Contains (d ∷ ds) z) (λ i. (sym key i, value i)) (first-in d ds),
          λ c. elim (contains-cases d ds (k, v) c) [
            | inl same ↦ ap (λ (z : List ℕ × List ℕ). Some z.1) same
            | inr later ↦
                let below = below-member d.0 ds (k, v) (and-first _ _ sorted) later in
                absurd (apart (slice_cmp nat_cmp d.0 k) below (ap (slice_cmp nat_cmp d.0) key ∙ tied_itself nat_list_cmp_total d.0))
          ],
        )
    go false fail rest = (
      λ e. later-in d ds (k, v) (rest.0 e),
      λ c. elim (contains-cases d ds (k, v) c) [
        | inl same ↦
            let tie : eq_by_cmp (slice_cmp nat_cmp) k d.0 ≡ true =
            ap (λ (z : List ℕ × List ℕ). eq_by_cmp (slice_cmp nat_cmp) k z.0) same ∙ ap is_eq (tied_itself nat_list_cmp_total k) in
            absurd (false≢true (sym fail ∙ tie))
        | inr later ↦ rest.1 later
      ],
    )

-- the pair stands in the map exactly where the key has the value
pub get-contains : (m : Texts) (k v : List ℕ) → (get m k ≡ Some v) ↔ Contains (entries m) (k, v)
get-contains m k v =
    let f = found (entries m) (entries_sorted m) k v in (
      λ e. f.0 (sym (get-entries m k) ∙ e),
      λ c. get-entries m k ∙ f.1 c,
    )

-- ---- stale keys

of-checksum : (k v : List ℕ) → (is_of_checksum (k, v) ≡ true) ↔ ((is_checksum k ≡ true) × (v ≢ no_checksum))
of-checksum k v = (
  λ h.
      let parts = and_parts (is_checksum k) (not (same_text v no_checksum)) h in
      (parts.0, λ e. false≢true (sym (not-true (same_text v no_checksum) parts.1) ∙ (same_text-Decides v no_checksum).1 e)),
  λ h. elim (cases_Bool (same_text v no_checksum)) [
    | inl same ↦ absurd (h.1 ((same_text-Decides v no_checksum).0 same))
    | inr other ↦ λ i. h.0 i && not (other i)
  ],
)

v2-other : V2 ≢ V1
v2-other e = cc e

pub stale_keys_are_exact : StaleKeysAreExact
stale_keys_are_exact m packages key = (
  λ c.
      let e = (mapped (λ (e : List ℕ × List ℕ). e.0) (filter is_of_checksum (entries (metadata_of V2 m packages))) key).0 c in
      let kept = (filtered is_of_checksum (entries (metadata_of V2 m packages)) e.0).0 e.1 in
      let pair : Contains (entries (metadata_of V2 m packages)) (key, e.0.1) =
      subst (λ k. Contains (entries (metadata_of V2 m packages)) (k, e.0.1)) e.2 kept.0 in
      let here : get (metadata_of V2 m packages) key ≡ Some e.0.1 = (get-contains (metadata_of V2 m packages) key e.0.1).1 pair in
      let told = (of-checksum key e.0.1).0 (ap (λ k. is_of_checksum (k, e.0.1)) (sym e.2) ∙ kept.1) in
      let unowned : ¬ IsOfPackage packages key = λ owned. none-is (sym ((no_checksum_keys V2 m packages key v2-other).0 owned) ∙ here) in
      record {
        checksum = told.0;
        value = e.0.1;
        stands = sym ((no_checksum_keys V2 m packages key v2-other).1 unowned) ∙ here;
        told = told.1;
        unowned = unowned;
      },
  λ h.
      let here : get (metadata_of V2 m packages) key ≡ Some h.value = (no_checksum_keys V2 m packages key v2-other).1 h.unowned ∙ h.stands in
      let pair = (get-contains (metadata_of V2 m packages) key h.value).0 here in
      let kept = (filtered is_of_checksum (entries (metadata_of V2 m packages)) (key, h.value)).1 (pair, (of-checksum key h.value).1 (h.checksum, h.told)) in
      (mapped (λ (e : List ℕ × List ℕ). e.0) (filter is_of_checksum (entries (metadata_of V2 m packages))) key).1 ((key, h.value), kept, refl),
)
  where
    none-is : {X : Type 0} {x : X} → None ≡ Some x → ⊥
    none-is e = cc e
