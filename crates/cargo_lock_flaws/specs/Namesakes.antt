-- What is recorded of the names so far. No public contract cites these definitions.
use Rattle.std.specs.Prelude.{◌≡◌, ◌≢◌, ◌<◌, ◌↔◌, ℕ, Bool, cond, if◌then◌else◌, List, bytes_eq, Option, None, Some, unwrap_or, Vec}
use Rattle.std.specs.Borrow.{Bor}
use Rattle.std.specs.BTreeMap.{BTreeMap, get, is_at}
use Rattle.std.specs.List.{AllPairs, Contains}
use Rattle.std.specs.declared.cmp.Ordering.{Ordering}
use Rattle.cargo_lock_parts.specs.Identity.{PackageData}
use Rattle.cargo_lock_parts.specs.SourceKey.{text_cmp}
use Rattle.cargo_lock_graph.specs.Targets.{HoldsOf}
use Rattle.cargo_lock_flaws.specs.declared.alike.Namesakes.{Namesakes}
use Rattle.cargo_lock_flaws.specs.Alike.{IsFirstAlike, IsFirstBelow, IsFromCratesIo, folded}

-- the package is from crates.io, and this is its name as crates.io compares it
pub record IsNamedThere (key : List ℕ) (p : PackageData) : Type 0 where
  pub from : IsFromCratesIo p
  pub same : folded p.name ≡ key

-- the package is from crates.io, this is its name as crates.io compares it, and its own name is not
-- this one
pub record IsNamedOtherwise (key name : List ℕ) (p : PackageData) : Type 0 where
  pub there : IsNamedThere key p
  pub differ : p.name ≢ name

-- for the packages below a bound, the first one with this name as crates.io compares it, and the
-- first one of these whose own name differs from that one's
abbrev pub AreNamesakes : List PackageData → ℕ → List ℕ → Option Namesakes → Type 0
AreNamesakes packages bound key None =
    IsFirstBelow (HoldsOf (IsNamedThere key) packages) bound None
AreNamesakes packages bound key (Some n) =
    IsFirstBelow (HoldsOf (IsNamedThere key) packages) bound (Some n.first)
    × HoldsOf (λ p. p.name ≡ n.name.now) packages n.first
    × IsFirstBelow (HoldsOf (IsNamedOtherwise key n.name.now) packages) bound n.other

-- the first place of a package with another name
abbrev pub earlier_alike : Option Namesakes → List ℕ → Option ℕ
earlier_alike None name = None
earlier_alike (Some n) name = if bytes_eq n.name.now name then n.other else Some n.first

-- the first place of a package with another name, after one more package
abbrev pub next_other : Option ℕ → ℕ → Bool → Option ℕ
next_other other place is_same = if is_same then other else Some (unwrap_or other place)

-- the namesakes with one more package
abbrev pub with_place : Option Namesakes → ℕ → Bor (List ℕ) → Namesakes
with_place None place name = record { name = name; first = place; other = None }
with_place (Some n) place name = record {
  name = n.name;
  first = n.first;
  other = next_other n.other place (bytes_eq n.name.now name.now);
}

-- keys compare as texts
abbrev pub folded_name_cmp : {Z : Type 0} → Vec ℕ Z → Vec ℕ Z → Ordering
folded_name_cmp a b = text_cmp a.items b.items

-- the namesakes of each key are recorded for the packages below a bound
abbrev pub AreSeen : {Z : Type 0} → List PackageData → ℕ → BTreeMap (Vec ℕ Z) Namesakes → Type 0
AreSeen {Z} packages bound seen =
    (q : Vec ℕ Z) → AreNamesakes packages bound q.items (get folded_name_cmp seen q)

-- the namesakes of one name, as they were recorded, and with one more package
pub record HasSeen {Z : Type 0} (old new : BTreeMap (Vec ℕ Z) Namesakes) (place : ℕ)
    (name : Bor (List ℕ)) (found : Option ℕ) : Type 0 where
  pub key : Vec ℕ Z
  pub folded : key.items ≡ folded name.now
  pub earlier : found ≡ earlier_alike (get folded_name_cmp old key) name.now
  pub updates : (q : Vec ℕ Z) → get folded_name_cmp new q
      ≡ cond (is_at (folded_name_cmp key) q)
      (Some (with_place (get folded_name_cmp old key) place name))
      (get folded_name_cmp old q)

-- the pairs of places whose second one is below a bound
pub record ArePairsBelow (packages : List PackageData) (bound : ℕ) (pairs : List (ℕ × ℕ)) : Type 0
  where
    pub ascending : AllPairs (λ x y. x.1 < y.1) pairs
    pub told : (i j : ℕ) → Contains pairs (i, j) ↔ ((j < bound) × IsFirstAlike packages i j)
