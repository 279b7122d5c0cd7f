-- How well two sources match: the ranks by which a dependency finds its package.
--
-- Rank 1 is the best. Each rank has a condition, those of the ranks 1 to 3 imply that of rank 4,
-- and two sources match where the condition of rank 4 holds. A match is no equality: a dependency
-- on a branch matches each commit of that branch.
use Rattle.std.specs.Prelude.{◌≡◌, ◌↔◌, ℕ, Bool, true, false, not, ◌&&◌, ◌||◌, ◌==◌, List, bytes_eq}
use Rattle.std.specs.Prelude.{Option, Some, None, is_none, if◌then◌else◌}
use Rattle.std.specs.Option.{option_eq, option_or}
use Rattle.url.specs.Parts.{serialize}
use Rattle.cargo_lock_parts.specs.Source.{Kind, Source, Rev, Git, is_git}
use Rattle.cargo_lock_parts.specs.SourceKey.{kind_number, git_reference_text, key_of}
use Rattle.cargo_lock_parts.specs.SourceKey.{is_same_source}

-- ---- what the conditions compare

-- the value of `Rev`, if the source is a repository with one
abbrev pub revision : Kind → Option (List ℕ)
revision (Git (Rev text)) = Some text
revision other = None

-- the commit of a git source: the precise text, or else the value of `Rev`
abbrev pub commit_of : Source → Option (List ℕ)
commit_of s = option_or s.precise (revision s.kind)

-- both texts are there, and they are equal
abbrev pub are_equal_texts : Option (List ℕ) → Option (List ℕ) → Bool
are_equal_texts None y = false
are_equal_texts (Some x) None = false
are_equal_texts (Some x) (Some y) = bytes_eq x y

-- both texts are there, and they differ
abbrev pub are_different_texts : Option (List ℕ) → Option (List ℕ) → Bool
are_different_texts None y = false
are_different_texts (Some x) None = false
are_different_texts (Some x) (Some y) = not (bytes_eq x y)

-- the same URL text, and the same name or none in either
abbrev pub same_url_and_name : Source → Source → Bool
same_url_and_name a b =
    bytes_eq (serialize a.url) (serialize b.url) && option_eq bytes_eq a.name b.name

-- both are repositories
abbrev pub both_git : Source → Source → Bool
both_git a b = is_git a.kind && is_git b.kind

-- the same kind, which for a repository means the same sort of reference with the same value
abbrev pub same_kind : Kind → Kind → Bool
same_kind j k = (kind_number j == kind_number k)
    && bytes_eq (git_reference_text j) (git_reference_text k)

-- ---- the conditions

-- the keys are equal
abbrev pub has_rank_1 : Source → Source → Bool
has_rank_1 a b = is_same_source a b

-- repositories with the same URL and name, which both have a commit, and the commits are equal
abbrev pub has_rank_2 : Source → Source → Bool
has_rank_2 a b =
    same_url_and_name a b && both_git a b && are_equal_texts (commit_of a) (commit_of b)

-- repositories with the same URL, name and reference, at least one of which has no precise text
abbrev pub has_rank_3 : Source → Source → Bool
has_rank_3 a b =
    same_url_and_name a b && both_git a b && same_kind a.kind b.kind
    && (is_none a.precise || is_none b.precise)

-- repositories without two different precise texts
abbrev pub is_open_git : Source → Source → Bool
is_open_git a b = both_git a b && not (are_different_texts a.precise b.precise)

-- no repositories, and of the same kind
abbrev pub is_same_other_kind : Kind → Kind → Bool
is_same_other_kind j k = not (is_git j) && not (is_git k) && same_kind j k

-- the same URL and name, and either repositories without two different precise texts, or no
-- repositories and of the same kind
abbrev pub has_rank_4 : Source → Source → Bool
has_rank_4 a b = same_url_and_name a b && (is_open_git a b || is_same_other_kind a.kind b.kind)

-- ---- the rank

-- the least of four ranks that holds
abbrev pub least_rank : Bool → Bool → Bool → Bool → Option ℕ
least_rank first second third fourth =
    if first then Some 1
    else (if second then Some 2
    else (if third then Some 3
    else (if fourth then Some 4
    else None)))

-- the least rank whose condition holds
abbrev pub rank_of : Source → Source → Option ℕ
rank_of a b = least_rank (has_rank_1 a b) (has_rank_2 a b) (has_rank_3 a b) (has_rank_4 a b)

-- ---- the laws of the rank

-- the rank is the same in both directions
abbrev pub RankIsSymmetric : Type 0
RankIsSymmetric = (a b : Source) → rank_of a b ≡ rank_of b a

-- the rank is 1 exactly if the keys are equal
abbrev pub RankOneIsEqualKeys : Type 0
RankOneIsEqualKeys = (a b : Source) → (rank_of a b ≡ Some 1) ↔ (key_of a ≡ key_of b)

-- there is no rank exactly if the condition of rank 4 does not hold
abbrev pub NoRankIsNoMatch : Type 0
NoRankIsNoMatch = (a b : Source) → (rank_of a b ≡ None) ↔ (has_rank_4 a b ≡ false)

-- each of the other conditions implies that of rank 4
abbrev pub RanksImplyLast : Type 0
RanksImplyLast = (a b : Source) → (has_rank_1 a b || has_rank_2 a b || has_rank_3 a b) ≡ true
    → has_rank_4 a b ≡ true
