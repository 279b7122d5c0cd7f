-- The first value for each name and version: what one more key changes.
use Rattle.std.proofs.Common.{◌≡◌, inl, inr, ℕ, List, ◌&&◌, Bool, true, false, cond, if◌then◌else◌, is_some, Option, Some, None, option_map, refl, sym, ap, subst, ◌∙◌}
use Rattle.std.specs.BTreeMap.{BTreeMap, get, is_at}
use Rattle.std.specs.Option.{option_or}
use Rattle.std.proofs.lemmas.Bool.{cases_Bool, false≢true, and_parts}
use Rattle.std.proofs.lemmas.Option.{same_Some}
use Rattle.semver.specs.Parse.{Parts}
use Rattle.cargo_lock_parts.specs.declared.package.checksum.Checksum.{Checksum}
use Rattle.cargo_lock_parts.specs.Checksum.{digest_of}
use Rattle.cargo_lock_parts.specs.Identity.{Identity}
use Rattle.cargo_lock_references.specs.Reference.{Reference, two_words}
use Rattle.cargo_lock_references.specs.ReferenceLaws.{is_same_reference-Decides}
use Rattle.cargo_lock_parts.specs.PartialIdentity.{PartialKey}
use Rattle.cargo_lock_references.specs.ReferenceOrder.{reference_cmp, reference_key, is_same_reference}
use Rattle.cargo_lock_references.specs.Metadata.{is_named}
use Rattle.cargo_lock_references.specs.ReadKeys.{value_at}
use Rattle.cargo_lock_references.specs.ResolutionSearch.{same_parts, same_text}
use Rattle.cargo_lock_references.proofs.ResolvesToLemmas.{same_parts-refl, same_parts-yes, same_text-refl, same_text-yes}

or-none : (o : Option (Option (List ℕ))) → option_or o None ≡ o
or-none None = refl
or-none (Some x) = refl

is_none : (o : Option (Option Checksum)) → is_some o ≡ false → option_map (option_map digest_of) o ≡ None
is_none None h = refl
is_none (Some x) h = absurd (false≢true (sym h))

same-two : (name n : List ℕ) (version v : Parts) → (same_text name n && same_parts version v) ≡ true → two_words name version ≡ two_words n v
same-two name n version v h =
    let (a, c) = and_parts _ _ h in
    let e : name ≡ n = same_text-yes name n a in
    let f : version ≡ v = same_parts-yes version v c in
    λ i. two_words (e i) (f i)

two-same : (name n : List ℕ) (version v : Parts) → reference_key (two_words name version) ≡ reference_key (two_words n v) → (same_text name n && same_parts version v) ≡ true
two-same name n version v h =
    let e : name ≡ n = ap (λ (k : PartialKey). k.name) h in
    let f : version ≡ v = same_Some version v (ap (λ (k : PartialKey). k.version) h) in
    ap (λ t. same_text name t && same_parts version v) (sym e)
    ∙ ap (λ w. same_text name name && same_parts version w) (sym f)
    ∙ ap (λ b. b && same_parts version version) (same_text-refl name)
    ∙ same_parts-refl version

tied-two : (name n : List ℕ) (version v : Parts) (b : Bool) → (same_text name n && same_parts version v) ≡ b → is_at (reference_cmp (two_words name version)) (two_words n v) ≡ b
tied-two name n version v true h =
    (is_same_reference-Decides (two_words name version) (two_words n v)).1 (ap reference_key (same-two name n version v h))
tied-two name n version v false h = elim (cases_Bool (is_same_reference (two_words name version) (two_words n v))) [
  | inl t ↦ absurd (false≢true (sym h ∙ two-same name n version v ((is_same_reference-Decides (two_words name version) (two_words n v)).0 t)))
  | inr f ↦ f
]

pub put-set : (m n : BTreeMap Reference (Option Checksum)) (key : Reference) (d : Identity) (c : Option Checksum) (w : Option (List ℕ))
    → key ≡ two_words d.name d.version → is_some (get reference_cmp m key) ≡ false → option_map digest_of c ≡ w
    → ((q : Reference) → get reference_cmp n q ≡ cond (is_at (reference_cmp key) q) (Some c) (get reference_cmp m q))
    → (name : List ℕ) (version : Parts) → value_at n name version ≡ option_or (value_at m name version) (if is_named name version (Some d) then Some w else None)
put-set m n key d c w is absent reads sets name version =
    let q : Reference = two_words name version in
    let at : (b : Bool) → is_named name version (Some d) ≡ b → is_at (reference_cmp key) q ≡ b =
    λ b e. ap (λ k. is_at (reference_cmp k) q) is ∙ tied-two d.name name d.version version b e in
    (elim (is_named name version (Some d)) as (λ b. is_named name version (Some d) ≡ b → value_at n name version ≡ option_or (value_at m name version) (if b then Some w else None)) [
      | true ↦ λ e.
          let same = is ∙ same-two d.name name d.version version e in
          ap (option_map (option_map digest_of)) (sets q ∙ ap (λ b. cond b (Some c) (get reference_cmp m q)) (at true e))
          ∙ ap Some reads
          ∙ ap (λ o. option_or o (Some w)) (sym (is_none (get reference_cmp m q) (subst (λ k. is_some (get reference_cmp m k) ≡ false) same absent)))
      | false ↦ λ e.
          ap (option_map (option_map digest_of)) (sets q ∙ ap (λ b. cond b (Some c) (get reference_cmp m q)) (at false e))
          ∙ sym (or-none (value_at m name version))
    ]) refl
