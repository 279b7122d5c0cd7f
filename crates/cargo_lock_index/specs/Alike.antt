-- Keys that are alike: those of one name and one version, from one URL. They are neighbours in an
-- index.
use Rattle.std.specs.Prelude.{◌≡◌, ℕ, ◌↔◌, List, Option, Some, None, option_map, slice_get}
use Rattle.std.specs.List.{Contains}
use Rattle.std.specs.Option.{option_cmp}
use Rattle.std.specs.declared.cmp.Ordering.{Ordering}
use Rattle.std.specs.Ordering.{on, then_cmp}
use Rattle.url.specs.Parts.{serialize}
use Rattle.cargo_lock_parts.specs.PartialIdentity.{PartialIdentity}
use Rattle.cargo_lock_parts.specs.Source.{Source}
use Rattle.cargo_lock_parts.specs.SourceKey.{text_cmp}
use Rattle.cargo_lock_index.specs.Near.{Placed, near_cmp}

-- the text of a source's URL
abbrev pub url_of : Source → List ℕ
url_of source = serialize source.url

-- both keys have one name and one version, and sources of one URL or no source
pub record AreAlike (a b : PartialIdentity) : Type 0 where
  pub name : a.name ≡ b.name
  pub version : a.version ≡ b.version
  pub url : option_map url_of a.source ≡ option_map url_of b.source

-- the list has the entry's key at the entry's place
abbrev pub IsEntryOf : List PartialIdentity → Placed → Type 0
IsEntryOf keys e = slice_get keys e.place ≡ Some e.key

-- the entries are those of a list whose keys are alike to this one
abbrev pub AreAllAlike : PartialIdentity → List PartialIdentity → List Placed → Type 0
AreAllAlike key keys entries = (e : Placed)
    → Contains entries e ↔ (IsEntryOf keys e × AreAlike key e.key)

-- ---- the order in which they are neighbours

-- a key without its source
abbrev pub without_source : PartialIdentity → PartialIdentity
without_source key = record { name = key.name; version = key.version; source = None }

-- sources compare by their URLs, and an absent one is before a present one
abbrev pub url_cmp : Option Source → Option Source → Ordering
url_cmp = option_cmp (on url_of text_cmp)

-- keys compare without their sources, and then by the URLs
abbrev pub alike_cmp : PartialIdentity → PartialIdentity → Ordering
alike_cmp = then_cmp (on without_source near_cmp) (on (λ k. k.source) url_cmp)
