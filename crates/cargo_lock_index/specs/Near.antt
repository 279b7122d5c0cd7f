-- The keys of a list, in the order of a number first, and their places in the list.
use Rattle.std.specs.Prelude.{◌≡◌, ◌+◌, ℕ, Bool, false, List, [], ◌∷◌, Option, Some, None}
use Rattle.std.specs.Prelude.{if◌then◌else◌, slice_index, slice_get, nat_eq, zero, suc}
use Rattle.std.specs.List.{filter, count_by}
use Rattle.std.specs.Option.{option_or}
use Rattle.std.specs.Int.{from_be_bytes, w64}
use Rattle.std.specs.declared.cmp.Ordering.{Ordering}
use Rattle.std.specs.Ordering.{nat_cmp, on, then_cmp, eq_by_cmp}
use Rattle.std.specs.Cmp.{IsTotalOrder, on_total, then_total, nat_cmp_total}
use Rattle.cargo_lock_parts.specs.PartialIdentity.{PartialIdentity, partial_identity_cmp}
use Rattle.cargo_lock_parts.specs.PartialIdentity.{partial_identity_total, is_same_partial_identity}

-- the first eight bytes of a name as a big-endian number, with zeros after a name that has fewer
unfoldable pub beginning : List ℕ → ℕ
beginning name = from_be_bytes w64
    (slice_index name 0 ∷ slice_index name 1 ∷ slice_index name 2 ∷ slice_index name 3
    ∷ slice_index name 4 ∷ slice_index name 5 ∷ slice_index name 6 ∷ slice_index name 7 ∷ [])

-- keys compare by the numbers of their names, and as keys if those are equal
abbrev pub near_cmp : PartialIdentity → PartialIdentity → Ordering
near_cmp = then_cmp (on (λ k. beginning k.name) nat_cmp) partial_identity_cmp

-- that order is total
pub near_total : IsTotalOrder near_cmp
near_total = then_total (on_total (λ (k : PartialIdentity). beginning k.name) nat_cmp_total)
    partial_identity_total

-- a key, and its place in the list
pub record Placed : Type 0 where
  pub key : PartialIdentity
  pub place : ℕ

-- entries compare by their keys
abbrev pub entry_cmp : Placed → Placed → Ordering
entry_cmp = on (λ e. e.key) near_cmp

-- the order of entries is total
pub entry_total : IsTotalOrder entry_cmp
entry_total = on_total (λ (e : Placed). e.key) near_total

-- entries that compare as equal
abbrev pub is_same_entry : Placed → Placed → Bool
is_same_entry = eq_by_cmp entry_cmp

-- an entry has the key
abbrev pub has_key : PartialIdentity → Placed → Bool
has_key key e = is_same_partial_identity key e.key

-- the keys of a list, each with its place, counted from a number on
abbrev pub placed_from : ℕ → List PartialIdentity → List Placed
placed_from place [] = []
placed_from place (key ∷ keys) = record { key = key; place = place } ∷ placed_from (place + 1) keys

-- for each key, the entries have its places in the list, in the list's order
abbrev pub IsIndexOf : List PartialIdentity → List Placed → Type 0
IsIndexOf keys entries = (key : PartialIdentity)
    → filter (has_key key) entries ≡ filter (has_key key) (placed_from 0 keys)

-- the first place at which a key passes, counted from a number on
abbrev pub first_from : (PartialIdentity → Bool) → ℕ → List PartialIdentity → Option ℕ
first_from p place [] = None
first_from p place (key ∷ keys) = if p key then Some place else first_from p (place + 1) keys

-- the first place of a key in a list
abbrev pub first_place : PartialIdentity → List PartialIdentity → Option ℕ
first_place key keys = first_from (is_same_partial_identity key) 0 keys

-- the last place at which a key passes, counted from a number on
abbrev pub last_from : (PartialIdentity → Bool) → ℕ → List PartialIdentity → Option ℕ
last_from p place [] = None
last_from p place (key ∷ keys) = option_or (last_from p (place + 1) keys)
    (if p key then Some place else None)

-- the last place of a key in a list
abbrev pub last_place : PartialIdentity → List PartialIdentity → Option ℕ
last_place key keys = last_from (is_same_partial_identity key) 0 keys

-- exactly one place of a list has the key
abbrev pub is_only : PartialIdentity → List PartialIdentity → Bool
is_only key keys = nat_eq (count_by (is_same_partial_identity key) keys) 1

-- there is an entry, and it passes
abbrev pub passes : (Placed → Bool) → Option Placed → Bool
passes p None = false
passes p (Some e) = p e

-- the place of the entry, if there is one and it passes
abbrev pub place_if : (Placed → Bool) → Option Placed → Option ℕ
place_if p None = None
place_if p (Some e) = if p e then Some e.place else None

-- the place of the entry before a position of the order, if there is one and it passes
abbrev pub place_before : (Placed → Bool) → List Placed → ℕ → Option ℕ
place_before p entries zero = None
place_before p entries (suc at) = place_if p (slice_get entries at)

-- the place of the last entry, if there is one
abbrev pub tail_place : List Placed → Option ℕ
tail_place [] = None
tail_place (e ∷ entries) = option_or (tail_place entries) (Some e.place)
