-- Lockfiles are equal field by field: packages, the root and patches by their own equality, the
-- metadata pair by pair.
use Rattle.std.specs.Prelude.{◌≡◌, ◌&&◌, ◌↔◌, Bool, IsTrue, true, ℕ, List, map, nat_eq, option_map}
use Rattle.std.specs.Cmp.{IsEquivalence, and_equiv, eq_by_cmp_equiv, nat_eq_equiv, on_equiv}
use Rattle.std.specs.Cmp.Lexicographic.{lists_equiv, nat_list_eq_equiv, options_equiv, pointwise}
use Rattle.std.specs.FinMap.{entries}
use Rattle.std.specs.Option.{option_eq}
use Rattle.std.specs.Ordering.{eq_of_both, on}
use Rattle.cargo_lock_parts.specs.Identity.{identity_key, package_key}
use Rattle.cargo_lock_parts.specs.IdentityLaws.{package_total, patch_equivalence}
use Rattle.cargo_lock_parts.specs.IdentityOrder.{is_same_package, is_same_patch}
use Rattle.cargo_lock_references.specs.Format.{number_of}
use Rattle.cargo_lock_encoding.specs.Lockfiles.{LockfileData}
use Rattle.cargo_lock_references.specs.Records.{Texts}
use Rattle.cargo_lock_encoding.specs.Table.{table_of}
use Rattle.cargo_lock_encoding.specs.Text.{lines_of}

-- the keys are the same and the texts are the same
abbrev pub is_same_pair : List ℕ × List ℕ → List ℕ × List ℕ → Bool
is_same_pair p q = pointwise nat_eq p.0 q.0 && pointwise nat_eq p.1 q.1

-- the metadata are the same pair by pair
abbrev pub is_same_metadata : Texts → Texts → Bool
is_same_metadata m n = pointwise is_same_pair (entries m) (entries n)

-- lockfiles that are equal by `==`: all fields are the same
abbrev pub is_same_lockfile : LockfileData → LockfileData → Bool
is_same_lockfile = eq_of_both (eq_of_both (eq_of_both (eq_of_both
    (on (λ l. number_of l.version) nat_eq)
    (on (λ l. l.packages) (pointwise is_same_package)))
    (on (λ l. l.root) (option_eq is_same_package)))
    (on (λ l. l.metadata) is_same_metadata))
    (on (λ l. l.patch) is_same_patch)

pair_equivalence : IsEquivalence is_same_pair
pair_equivalence = and_equiv (on_equiv (λ p. p.0) nat_list_eq_equiv)
    (on_equiv (λ p. p.1) nat_list_eq_equiv)

package_equivalence : IsEquivalence is_same_package
package_equivalence = eq_by_cmp_equiv package_total

-- equality of lockfiles is an equivalence
pub lockfile_equivalence : IsEquivalence is_same_lockfile
lockfile_equivalence = and_equiv (and_equiv (and_equiv (and_equiv
    (on_equiv (λ (l : LockfileData). number_of l.version) nat_eq_equiv)
    (on_equiv (λ (l : LockfileData). l.packages) (lists_equiv package_equivalence)))
    (on_equiv (λ (l : LockfileData). l.root) (options_equiv package_equivalence)))
    (on_equiv (λ (l : LockfileData). l.metadata) (on_equiv entries (lists_equiv pair_equivalence))))
    (on_equiv (λ (l : LockfileData). l.patch) patch_equivalence)

-- ---- what equality compares

-- the same format and metadata, and, place by place, the same key of each package, of the root and
-- of each unused patch
pub record HasSameKeys (a b : LockfileData) : Type 0 where
  pub version : a.version ≡ b.version
  pub packages : map package_key a.packages ≡ map package_key b.packages
  pub root : option_map package_key a.root ≡ option_map package_key b.root
  pub metadata : a.metadata ≡ b.metadata
  pub patch : map identity_key a.patch ≡ map identity_key b.patch

-- exactly those lockfiles are equal by `==` that have the same keys
abbrev pub EqualExactlyByKeys : Type 0
EqualExactlyByKeys = (a b : LockfileData) → IsTrue (is_same_lockfile a b) ↔ HasSameKeys a b

-- lockfiles that are equal by `==` have equal tables and equal texts
abbrev pub EqualTablesAndTexts : Type 0
EqualTablesAndTexts = (a b : LockfileData) → is_same_lockfile a b ≡ true → (table_of a ≡ table_of b)
    × (lines_of a ≡ lines_of b)
