-- The places of packages, as the program has them.
use Rattle.std.specs.Prelude.{◌≡◌, ℕ, List, count_by, option_map, unwrap_or}
use Rattle.std.specs.BTreeMap.{BTreeMap, get_by}
use Rattle.std.specs.Borrow.{Bor}
use Rattle.std.specs.Cmp.Lexicographic.{slice_cmp}
use Rattle.std.specs.Ordering.{nat_cmp}
use Rattle.semver.specs.Identifiers.{parts_of}
use Rattle.cargo_lock_parts.specs.Identity.{PackageData}
use Rattle.cargo_lock_parts.specs.SourceKey.{key_of}
use Rattle.cargo_lock_merge_core.specs.declared.member_counts.MemberCounts.{MemberCounts}
use Rattle.cargo_lock_merge_core.specs.declared.place.Lists.{Lists}
use Rattle.cargo_lock_merge_core.specs.declared.place.Located.{Located}
use Rattle.cargo_lock_edges.specs.Nearest.{key_without_commit}
use Rattle.cargo_lock_merge_core.specs.Commits.{Lockfiles}
use Rattle.cargo_lock_merge_core.specs.Places.{has_several, is_member_named, version_in}

-- the packages of three lists of the program
abbrev pub lists_of : Lists → Lockfiles
lists_of l = record { base = l.base.now; ours = l.ours.now; theirs = l.theirs.now }

-- the parts of the package's place
pub record IsLocated (all : Lockfiles) (p : PackageData) (l : Located) : Type 0 where
  pub version : option_map parts_of l.version
      ≡ version_in (has_several all p.name) p.version p.source
  pub source : option_map key_of l.source ≡ option_map key_without_commit p.source

-- how many packages without a source have the name
abbrev pub member_count : BTreeMap (Bor (List ℕ)) ℕ → List ℕ → ℕ
member_count counts name = unwrap_or (get_by (λ b. slice_cmp nat_cmp name b.now) counts) 0

-- that many packages of the list without a source have each name
abbrev pub AreCounts : List PackageData → BTreeMap (Bor (List ℕ)) ℕ → Type 0
AreCounts packages counts = (name : List ℕ)
    → member_count counts name ≡ count_by (is_member_named name) packages

-- the same of the three lists
pub record AreMemberCounts (all : Lockfiles) (members : MemberCounts) : Type 0 where
  pub base : AreCounts all.base members.base
  pub ours : AreCounts all.ours members.ours
  pub theirs : AreCounts all.theirs members.theirs
