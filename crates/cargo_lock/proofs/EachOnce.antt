-- Texts that are sorted, each once.
use Rattle.std.proofs.Common.{◌≡◌, ◌<◌, ◌⊎◌, ◌↔◌, Bool, ◌++◌, ℕ, List, [], ◌∷◌, length, get_or, map, string_bytes, String, Global, sym, ap, subst, ◌∙◌, Some, None, arith}
use Rattle.std.specs.List.{AllByRecursion, Contains, dedup, filter}
use Rattle.std.specs.List.Sorted.{IsPermutation, IsSorted, IsStrictlySortedBy}
use Rattle.std.specs.String.{string_cmp, string_cmp_total, string_eq, string_eq_equiv}
use Rattle.std.specs.declared.cmp.Ordering.TheVariants.{Less}
use Rattle.std.proofs.lemmas.List.{get_or-map, length-map}
use Rattle.std.proofs.lemmas.List.Elements.{Contains-get_or}
use Rattle.std.proofs.lemmas.List.Kept.{Any-dedup, Contains-from_dedup, IsStrictlySortedBy-dedup}
use Rattle.std.proofs.lemmas.List.Sorted.{Contains-permutation, IsPermutation-sym}
use Rattle.std.proofs.lemmas.Map.Text.{is_eq-slice_cmp}
use Rattle.std.proofs.lemmas.Slice.Eq.{bytes_eq-Decides}
use Rattle.cargo_lock_parts.specs.SourceKey.{text_cmp}
use Rattle.toml.specs.Data.{Members}
use Rattle.toml.specs.Parse.{parse_document}
use Rattle.std.proofs.lemmas.Option.{same_Some}
use Rattle.lists.proofs.Members.{in-kept, kept-in}
use Rattle.cargo_lock.specs.LossySources.{AreEachOnce, AreLossySources, is_lossy, written_sources}

-- ---- elements of a list of texts

text-in : (texts : List (String Global)) (t : List ℕ) → Contains (map string_bytes texts) t → (s : String Global) × Contains texts s × (string_bytes s ≡ t)
text-in [] t h = absurd (let low = h.1 in omega (arith, low))
text-in (s ∷ texts) t h = (let k = h.0 in
    let low = h.1 in
    let long = length-map (s ∷ texts) (string_bytes {Z = Global}) in
    let within : k < length (s ∷ texts) = omega (arith, low, long) in
    (get_or (s ∷ texts) k s, Contains-get_or (s ∷ texts) k s within, sym (get_or-map (string_bytes {Z = Global}) (s ∷ texts) k s t within) ∙ h.2))

in-text : (texts : List (String Global)) (s : String Global) → Contains texts s → Contains (map string_bytes texts) (string_bytes s)
in-text texts s h =
    let (k, low, is) = h in
    let long = length-map texts (string_bytes {Z = Global}) in (
      k,
      omega (arith, low, long),
      get_or-map (string_bytes {Z = Global}) texts k s (string_bytes s) low ∙ ap (string_bytes {Z = Global}) is,
    )

-- ---- the order

below-map : (s : String Global) (texts : List (String Global)) → AllByRecursion (λ t. string_cmp s t ≡ Less) texts
    → AllByRecursion (λ t. text_cmp (string_bytes s) t ≡ Less) (map string_bytes texts)
below-map s [] h = h
below-map s (t ∷ texts) h = (h.0, below-map s texts h.1)

sorted-map : (texts : List (String Global)) → IsStrictlySortedBy string_cmp texts → IsStrictlySortedBy text_cmp (map string_bytes texts)
unfolding IsStrictlySortedBy
sorted-map [] h = h
sorted-map (s ∷ texts) h = (below-map s texts h.0, sorted-map texts h.1)

pub each-once : (texts sorted once : List (String Global)) → IsPermutation texts sorted → IsSorted string_cmp sorted → once ≡ dedup string_eq sorted
    → AreEachOnce (map string_bytes texts) (map string_bytes once)
each-once texts sorted once moved ascending is =
    rw is record {
      ascending = sorted-map (dedup string_eq sorted)
          (IsStrictlySortedBy-dedup string_cmp_total {E = string_eq} (λ x y. sym (is_eq-slice_cmp (string_bytes x) (string_bytes y))) sorted ascending);
      same = λ t. (
        λ h.
            let (s, there, equal) = text-in (dedup string_eq sorted) t h in
            subst (Contains (map string_bytes texts)) equal
            (in-text texts s (Contains-permutation sorted texts s (IsPermutation-sym texts sorted moved) (Contains-from_dedup string_eq sorted s there))),
        λ h.
            let (s, there, equal) = text-in texts t h in
            let (k, kept, low, stands, same) = Any-dedup string_eq_equiv sorted s (Contains-permutation texts sorted s moved there) in
            let one : string_bytes s ≡ string_bytes kept = (bytes_eq-Decides (string_bytes s) (string_bytes kept)).0 same in
            subst (Contains (map string_bytes (dedup string_eq sorted))) (sym one ∙ equal) (in-text (dedup string_eq sorted) kept (k, low, stands)),
      );
    }

-- ---- the lossy sources of a text

pub lossy-told : (text : List ℕ) (members : Members) (found once : List (List ℕ)) → parse_document text ≡ Some members
    → found ≡ filter is_lossy (written_sources members) → AreEachOnce found once → AreLossySources text once
lossy-told text members found once parsed is each = record {
  ascending = each.ascending;
  told = λ source. (
    λ h.
        let kept = kept-in is_lossy (written_sources members) source (subst (λ (xs : List (List ℕ)). Contains xs source) is ((each.same source).0 h)) in
        record { members = members; parsed = parsed; written = kept.0; lossy = kept.1 },
    λ h. (each.same source).1 (subst (λ (xs : List (List ℕ)). Contains xs source) (sym is)
        (in-kept is_lossy (written_sources members) source
        (subst (λ (ms : Members). Contains (written_sources ms) source) (same_Some h.members members (sym h.parsed ∙ parsed)) h.written) h.lossy)),
  );
}

sorted-none : IsStrictlySortedBy text_cmp []
unfolding IsStrictlySortedBy
sorted-none = tt

-- a text that is no TOML table has none
pub lossy-none : (text : List ℕ) (once : List (String Global)) → parse_document text ≡ None → once ≡ [] → AreLossySources text (map string_bytes once)
lossy-none text once none is =
    rw is record {
      ascending = sorted-none;
      told = λ source. (
        λ h. let low = h.1 in absurd (omega (arith, low)),
        λ h. let e = sym none ∙ h.parsed in cc e,
      );
    }
