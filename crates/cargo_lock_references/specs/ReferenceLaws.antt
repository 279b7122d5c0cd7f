-- The order of references is total, and what ties has one key.
use Rattle.std.specs.Prelude.{◌≡◌, true, ◌++◌, Option, Some, None, option_map, refl}
use Rattle.std.specs.Ordering.{ordering_then}
use Rattle.std.specs.Bool.{Decides}
use Rattle.std.specs.Cmp.{IsTotalOrder, on_total}
use Rattle.std.specs.Cmp.Lexicographic.{options_total}
use Rattle.std.specs.Hash.{HashWrites}
use Rattle.std.specs.Hash as fed
use Rattle.std.proofs.Common.{sym, ◌∙◌, ap}
use Rattle.cargo_lock_parts.specs.IdentityLaws.{by_keys-Decides, by_name_version_source-total}
use Rattle.cargo_lock_parts.specs.IdentityLaws.{option_cmp-by, version_total}
use Rattle.cargo_lock_parts.specs.PartialIdentity.{PartialKey, partial_key_cmp}
use Rattle.cargo_lock_parts.specs.PartialIdentity.{partial_key-anti, partial_key-total}
use Rattle.cargo_lock_parts.specs.Source.{MarkedSource}
use Rattle.cargo_lock_parts.specs.SourceKey.{key_cmp, key_hash}
use Rattle.cargo_lock_parts.specs.SourceLaws.{source_total, source_alike}
use Rattle.cargo_lock_references.specs.Reference.{Reference}
use Rattle.cargo_lock_references.specs.ReferenceOrder.{reference_cmp, reference_hash}
use Rattle.cargo_lock_references.specs.ReferenceOrder.{reference_key, is_same_reference}
use Rattle.cargo_lock_references.specs.ReferenceOrder.{is_same_marked, marked_cmp, marked_hash}
use Rattle.cargo_lock_references.specs.ReferenceOrder.{marked_key}

-- the order of marked sources is total
pub marked_total : IsTotalOrder marked_cmp
marked_total = on_total (λ (m : MarkedSource). m.source) source_total

-- marked sources that tie feed a hasher alike
pub marked_alike : (a b : MarkedSource) → is_same_marked a b ≡ true → marked_hash a ≡ marked_hash b
marked_alike a b h = source_alike a.source b.source h

-- the order of references is total
pub reference_total : IsTotalOrder reference_cmp
reference_total = by_name_version_source-total (λ (f : Reference). f.name)
    (λ (f : Reference). f.version) (λ (f : Reference). f.source)
    (options_total version_total) marked_total

reference_cmp-key : (a b : Reference) → reference_cmp a b
    ≡ partial_key_cmp (reference_key a) (reference_key b)
unfolding partial_key_cmp
reference_cmp-key a b =
    ap (ordering_then _)
    (option_cmp-by marked_key marked_cmp key_cmp (λ x y. refl) a.source b.source)

-- references are the same exactly where their keys are
pub is_same_reference-Decides : (a b : Reference)
    → Decides (is_same_reference a b) (reference_key a ≡ reference_key b)
is_same_reference-Decides = by_keys-Decides reference_cmp partial_key_cmp reference_key
    partial_key-total partial_key-anti reference_cmp-key

reference_writes : PartialKey → HashWrites
reference_writes k = fed.str k.name ++ fed.option key_hash k.source

marked_hash-key : (s : Option MarkedSource)
    → fed.option marked_hash s ≡ fed.option key_hash (option_map marked_key s)
marked_hash-key None = refl
marked_hash-key (Some s) = refl

reference_hash-key : (f : Reference) → reference_hash f ≡ reference_writes (reference_key f)
unfolding reference_writes
reference_hash-key f = ap (λ w. fed.str f.name ++ w) (marked_hash-key f.source)

-- references that tie feed a hasher alike
pub reference_alike : (a b : Reference)
    → is_same_reference a b ≡ true → reference_hash a ≡ reference_hash b
reference_alike a b h =
    let same = (is_same_reference-Decides a b).0 h in
    reference_hash-key a ∙ ap reference_writes same ∙ sym (reference_hash-key b)
